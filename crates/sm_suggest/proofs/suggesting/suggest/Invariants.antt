-- The decision said no of each combination so far.
use Rattle.sm_suggest.proofs.Imports.{ℕ, ◌<◌, false, parts_of, combination, MayAnswer}
use Rattle.sm_suggest.proofs.suggesting.suggest.Given as goal

abbrev pub invariant-loop-k : goal.invariant-loop-k
invariant-loop-k g l = (j : ℕ) → j < l.k → MayAnswer g.F.Fn l.decide (combination (parts_of l.task) j) false
