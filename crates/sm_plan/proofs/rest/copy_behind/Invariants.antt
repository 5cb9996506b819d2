-- The copies so far stand for the statements so far.
use Rattle.sm_plan.proofs.Imports.{◌≡◌, ◌++◌, map, take, statement_of}
use Rattle.sm_plan.proofs.rest.copy_behind.Given as goal

abbrev pub invariant-loop-s : goal.invariant-loop-s
invariant-loop-s l = map statement_of l.list.items ≡ map statement_of l.fn.list.items ++ map statement_of (take l.s-index l.more)
