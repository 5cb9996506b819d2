-- The numbers so far are marked.
use Rattle.sm_prune.proofs.Imports.{nat_eq, take, list_any, MarksMore}
use Rattle.sm_prune.proofs.marks.mark_each.Given as goal

abbrev pub invariant-loop-number : goal.invariant-loop-number
invariant-loop-number l =
    MarksMore (λ n. list_any (nat_eq n) (take l.number-index l.numbers)) l.fn.marks.items l.marks.items
