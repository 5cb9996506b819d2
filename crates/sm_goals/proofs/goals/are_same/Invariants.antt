-- The formulas so far are the same.
use Rattle.sm_goals.proofs.Imports.{◌≡◌, take, all_numbered}
use Rattle.sm_goals.proofs.goals.are_same.Given as goal

abbrev pub invariant-loop-n : goal.invariant-loop-n
invariant-loop-n l = take l.n (all_numbered l.list) ≡ take l.n (all_numbered l.others)
