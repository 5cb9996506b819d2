-- The first fact that is refuted.
use Rattle.sm_judge.proofs.Imports.{◌≡◌, ◌<◌, ◌∙◌, false, length, get_or, sym, ap, below_more, arith, get_or_from_slice_get, numbered, assertion_in, trees_in, sorts_in, is_refuted, seen_in}
use Rattle.std.proofs.Common.{ℕ}
use Rattle.sm_term.specs.Assertions.{Yes}
use Rattle.sm_judge.proofs.ClosingLemmas.{fact_at, facts_count, within_at, some_refuted}
use Rattle.sm_judge.proofs.TornLemmas.{none_passes}
use Rattle.sm_judge.proofs.closing.refuted.Goals as goal

pub is_refuted-requires-clause-formula : goal.is_refuted-requires-clause-formula
is_refuted-requires-clause-formula g c =
    within_at (length (trees_in c.args.table.now)) c.args.facts.now c.loop-i.i c.index-facts-i.result c.loop-i-test.true c.index-facts-i.is
    c.requires.facts

pub returns-then-is_refuted-clause-refuted : goal.returns-then-is_refuted-clause-refuted
returns-then-is_refuted-clause-refuted g c =
    let sorts = sorts_in c.args.table.now in
    let trees = trees_in c.args.table.now in
    let facts = c.args.facts.now in
    let b = seen_in sorts trees trees facts (g.S.Sees.equal c.args.sees.now) (g.S.Sees.apart c.args.sees.now) in
    let f = c.index-facts-i.result in
    some_refuted b c.loop-i.i (assertion_in sorts trees (numbered f))
    (fact_at sorts trees facts c.loop-i.i f c.loop-i-test.true c.index-facts-i.is)
    (sym (c.is_refuted.ensures trees facts) ∙ c.if-is_refuted.true)

pub returns-then-is_refuted-clause-why : goal.returns-then-is_refuted-clause-why
returns-then-is_refuted-clause-why g c =
    let sorts = sorts_in c.args.table.now in
    let trees = trees_in c.args.table.now in
    let facts = c.args.facts.now in
    let f = c.index-facts-i.result in (
      assertion_in sorts trees (numbered f),
      fact_at sorts trees facts c.loop-i.i f c.loop-i-test.true c.index-facts-i.is,
      sym (c.is_refuted.ensures trees facts) ∙ c.if-is_refuted.true,
    )

pub loop-i-preserved : goal.loop-i-preserved
loop-i-preserved g c =
    let sorts = sorts_in c.args.table.now in
    let trees = trees_in c.args.table.now in
    let facts = c.args.facts.now in
    let b = seen_in sorts trees trees facts (g.S.Sees.equal c.args.sees.now) (g.S.Sees.apart c.args.sees.now) in
    let i = c.loop-i.i in
    let f = c.index-facts-i.result in
    let at = fact_at sorts trees facts i f c.loop-i-test.true c.index-facts-i.is in
    below_more (λ (m : ℕ). is_refuted b (get_or b.facts m Yes) ≡ false) i c.loop-i.invariant
    (ap (is_refuted b) (get_or_from_slice_get b.facts i (assertion_in sorts trees (numbered f)) Yes at)
    ∙ sym (c.is_refuted.ensures trees facts) ∙ c.if-is_refuted.false)

pub returns-clause-refuted : goal.returns-clause-refuted
returns-clause-refuted g c =
    let sorts = sorts_in c.args.table.now in
    let trees = trees_in c.args.table.now in
    let facts = c.args.facts.now in
    let b = seen_in sorts trees trees facts (g.S.Sees.equal c.args.sees.now) (g.S.Sees.apart c.args.sees.now) in
    let count = facts_count sorts trees facts in
    sym (none_passes (is_refuted b) Yes b.facts
    (λ (m : ℕ) (h : m < length b.facts). c.loop-i.invariant m (omega (arith, h, count, c.loop-i-test.false))))
