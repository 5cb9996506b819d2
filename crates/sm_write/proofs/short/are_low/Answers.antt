-- A number more, and one that isn't low.
use Rattle.std.proofs.Common.{sym, ◌∙◌}
use Rattle.sm_write.proofs.ShortLemmas.{numbers_low, number_low}
use Rattle.sm_write.proofs.short.are_low.Goals as goal

pub loop-n-preserved : goal.loop-n-preserved
loop-n-preserved c =
    numbers_low c.args.numbers.now c.loop-n.n-index _ c.loop-n.invariant c.loop-n-test.true (c.is_low.ensures.0 c.if-not-is_low.false)

pub returns-then-not-is_low : goal.returns-then-not-is_low
returns-then-not-is_low c = (
  λ none. absurd cc,
  λ all.
      sym c.if-not-is_low.true
      ∙ c.is_low.ensures.1 (number_low c.args.numbers.now c.loop-n.n-index _ all c.loop-n-test.true),
)
