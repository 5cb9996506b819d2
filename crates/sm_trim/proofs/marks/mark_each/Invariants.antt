-- The facts so far are marked.
use Rattle.sm_trim.proofs.Imports.{nat_eq, take, list_any, MarksMore}
use Rattle.sm_trim.proofs.marks.mark_each.Given as goal

abbrev pub invariant-loop-fact : goal.invariant-loop-fact
invariant-loop-fact l =
    MarksMore (λ n. list_any (nat_eq n) (take l.fact-index l.facts)) l.fn.marks l.marks
