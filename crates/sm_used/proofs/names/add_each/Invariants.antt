-- The numbers so far are put to the names.
use Rattle.sm_used.proofs.Imports.{nat_eq, take, list_any, NamesMore}
use Rattle.sm_used.proofs.names.add_each.Given as goal

abbrev pub invariant-loop-fact : goal.invariant-loop-fact
invariant-loop-fact l = NamesMore (λ n. list_any (nat_eq n) (take l.fact-index l.facts)) l.fn.names l.names
