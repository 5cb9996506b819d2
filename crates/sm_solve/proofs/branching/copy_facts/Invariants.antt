use Rattle.sm_solve.proofs.Imports.{◌≡◌, take, all_numbered}
use Rattle.sm_solve.proofs.branching.copy_facts.Given as goal

abbrev pub invariant-loop-f : goal.invariant-loop-f
invariant-loop-f l = all_numbered l.list.items ≡ all_numbered (take l.f-index l.facts)
