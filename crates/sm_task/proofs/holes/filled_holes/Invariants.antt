use Rattle.sm_task.proofs.Imports.{◌≡◌, map, take, Filling}
use Rattle.sm_task.proofs.holes.filled_holes.Given as goal

abbrev pub invariant-loop-f : goal.invariant-loop-f
invariant-loop-f l = l.holes.items ≡ map (λ (f : Filling). f.hole) (take l.f-index l.f-items)
