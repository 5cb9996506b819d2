-- The right sides of the first equations.
use Rattle.std.proofs.Common.{◌≡◌, map, take}
use Rattle.sm_cc.specs.declared.log.Equation.{Equation}
use Rattle.sm_cc.proofs.places.right_sides.Given as goal

abbrev pub invariant-loop-e : goal.invariant-loop-e
invariant-loop-e l = l.places.items ≡ map (λ (e : Equation). e.right) (take l.e-index l.equations)
