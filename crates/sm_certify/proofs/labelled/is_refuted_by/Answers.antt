-- A fact that can't hold closes the branch.
use Rattle.sm_certify.proofs.Imports.{length, trees_in, within_at}
use Rattle.sm_certify.proofs.ByLabelsLemmas.{closed_by_fact}
use Rattle.sm_certify.proofs.labelled.is_refuted_by.Goals as goal

pub returns-then-is_fact_refuted : goal.returns-then-is_fact_refuted
returns-then-is_fact_refuted c = λ table ids whole within told h.
    let facts = c.args.facts.now in
    let i = c.loop-i.i in
    let f = c.index-facts-i.result in
    let below = c.loop-i-test.true in
    let is = c.index-facts-i.is in
    closed_by_fact table facts i f below is
    (c.is_fact_refuted.ensures table ids facts whole (within_at (length (trees_in table)) facts i f below is within) told
    c.if-is_fact_refuted.true)
