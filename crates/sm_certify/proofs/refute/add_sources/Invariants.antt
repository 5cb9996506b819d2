-- What is written leads on with the sources that are left.
use Rattle.sm_certify.proofs.Imports.{drop, branch_of, Leads, mark_at}
use Rattle.sm_certify.proofs.refute.add_sources.Given as goal

abbrev pub invariant-loop-source : goal.invariant-loop-source
invariant-loop-source l =
    Leads (branch_of l.table l.facts) (mark_at l.marks.list.items) l.draft.lines.items l.draft.numbers.items
    (drop l.source-index l.refutation.sources.items) l.refutation.elims.items l.refutation.bad
