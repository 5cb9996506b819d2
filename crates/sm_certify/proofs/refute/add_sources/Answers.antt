use Rattle.sm_certify.proofs.Imports.{List, ◌+◌, drop, Source, branch_of, Leads, mark_at}
use Rattle.sm_certify.proofs.BranchLeadsLemmas.{item_left}
use Rattle.sm_certify.proofs.LeadsLemmas.{leads_usable}
use Rattle.sm_certify.proofs.refute.add_sources.Goals as goal

pub loop-source-preserved : goal.loop-source-preserved
loop-source-preserved c =
    let b = branch_of c.args.table.now c.args.facts.now in
    let r = c.args.refutation.now in
    let i = c.loop-source.source-index in
    let draft = c.loop-source.draft in
    let mark = mark_at c.args.marks.now.list.items in
    c.in_ok-add_source.ensures (drop (i + 1) r.sources.items) r.elims.items r.bad
    (item_left (λ (l : List Source). Leads b mark draft.lines.items draft.numbers.items l r.elims.items r.bad) c.deref-source-items.result.now
    r.sources.items i _ c.deref-source-items.ensures.value c.loop-source-test.true c.loop-source.invariant)

pub add_source-requires-clause-usable : goal.add_source-requires-clause-usable
add_source-requires-clause-usable c =
    let b = branch_of c.args.table.now c.args.facts.now in
    let r = c.args.refutation.now in
    let i = c.loop-source.source-index in
    let draft = c.loop-source.draft in
    let mark = mark_at c.args.marks.now.list.items in
    leads_usable b mark draft.lines.items draft.numbers.items _ (drop (i + 1) r.sources.items) r.elims.items r.bad
    (item_left (λ (l : List Source). Leads b mark draft.lines.items draft.numbers.items l r.elims.items r.bad) c.deref-source-items.result.now
    r.sources.items i _ c.deref-source-items.ensures.value c.loop-source-test.true c.loop-source.invariant)
