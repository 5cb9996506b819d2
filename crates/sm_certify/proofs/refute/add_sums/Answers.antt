use Rattle.sm_certify.proofs.Imports.{◌+◌, drop, mark_at}
use Rattle.sm_certify.proofs.BranchLeadsLemmas.{sums_left, next_f, next_g}
use Rattle.sm_certify.proofs.refute.add_sums.Goals as goal

pub add_sum-requires-clause-first : goal.add_sum-requires-clause-first
add_sum-requires-clause-first c =
    let draft = c.loop-elim.draft in
    next_f c.args.table.now c.args.facts.now (mark_at c.args.marks.now.list.items) draft.lines.items draft.numbers.items
    c.deref-elim-items.result.now c.args.refutation.now.elims.items c.loop-elim.elim-index _ c.args.refutation.now.bad
    c.deref-elim-items.ensures.value c.loop-elim-test.true c.loop-elim.invariant

pub add_sum-requires-clause-second : goal.add_sum-requires-clause-second
add_sum-requires-clause-second c =
    let draft = c.loop-elim.draft in
    next_g c.args.table.now c.args.facts.now (mark_at c.args.marks.now.list.items) draft.lines.items draft.numbers.items
    c.deref-elim-items.result.now c.args.refutation.now.elims.items c.loop-elim.elim-index _ c.args.refutation.now.bad
    c.deref-elim-items.ensures.value c.loop-elim-test.true c.loop-elim.invariant

pub loop-elim-preserved : goal.loop-elim-preserved
loop-elim-preserved c =
    let draft = c.loop-elim.draft in
    c.in_ok-add_sum.ensures (drop (c.loop-elim.elim-index + 1) c.args.refutation.now.elims.items) c.args.refutation.now.bad
    (sums_left c.args.table.now c.args.facts.now (mark_at c.args.marks.now.list.items) draft.lines.items draft.numbers.items
    c.deref-elim-items.result.now c.args.refutation.now.elims.items c.loop-elim.elim-index _ c.args.refutation.now.bad
    c.deref-elim-items.ensures.value c.loop-elim-test.true c.loop-elim.invariant)
