use Rattle.sm_task.proofs.Imports.{◌≡◌, take, flat_map, Filling, holes_of, code_of}
use Rattle.sm_task.proofs.holes.holes_inside.Given as goal

abbrev pub invariant-loop-f : goal.invariant-loop-f
invariant-loop-f l = l.holes.items ≡ flat_map (λ (f : Filling). holes_of (code_of f.block)) (take l.f-index l.f-items)
