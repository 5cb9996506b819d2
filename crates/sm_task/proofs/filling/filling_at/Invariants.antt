-- The filling is the first among those that are left.
use Rattle.sm_task.proofs.Imports.{◌≡◌, map, drop, Filling, filling, fillings_of, code_of}
use Rattle.sm_task.proofs.filling.filling_at.Given as goal

abbrev pub invariant-loop-f : goal.invariant-loop-f
invariant-loop-f l =
    filling (map (λ (f : Filling). (f.hole, code_of f.block)) (drop l.f-index l.f-items)) l.hole ≡ filling (fillings_of l.fillings) l.hole
