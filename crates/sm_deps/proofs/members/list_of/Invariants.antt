use Rattle.sm_deps.proofs.Imports.{◌≡◌, ◌++◌, map, Name}
use Rattle.sm_deps.proofs.members.list_of.Given as goal

abbrev pub invariant-loop-x : goal.invariant-loop-x
invariant-loop-x l = map (λ (n : Name). n.0) l.list.items ++ l.x-iterator ≡ l.names.keys
