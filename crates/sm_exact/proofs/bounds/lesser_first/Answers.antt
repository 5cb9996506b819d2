use Rattle.std.proofs.Common.{length, eqb-true, sym, ◌∙◌}
use Rattle.sm_exact.proofs.BoundsLemmas.{lesser_nothing}
use Rattle.sm_exact.proofs.bounds.lesser_first.Goals as goal

pub returns-then-is_empty : goal.returns-then-is_empty
returns-then-is_empty c =
    sym (lesser_nothing c.args.parts.now c.args.other
    (eqb-true (length c.args.parts.now) 0 (sym c.is_empty.ensures ∙ c.if-is_empty.true)))
