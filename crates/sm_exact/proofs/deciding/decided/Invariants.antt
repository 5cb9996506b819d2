-- The whole is what the frames make of the answer of what is entered.
use Rattle.sm_omega.specs.Exact.{exact}
use Rattle.sm_exact.specs.Stack.{Stands}
use Rattle.sm_exact.proofs.deciding.decided.Given as goal

abbrev pub invariant-loop-turn : goal.invariant-loop-turn
invariant-loop-turn l = Stands l.steps l.frames.items l.s l.entry (exact l.forms l.steps)
