-- What is written leads on with the sums that are left.
use Rattle.sm_certify.proofs.Imports.{[], drop, branch_of, Leads, mark_at}
use Rattle.sm_certify.proofs.refute.add_sums.Given as goal

abbrev pub invariant-loop-elim : goal.invariant-loop-elim
invariant-loop-elim l =
    Leads (branch_of l.table l.facts) (mark_at l.marks.list.items) l.draft.lines.items l.draft.numbers.items []
    (drop l.elim-index l.refutation.elims.items) l.refutation.bad
