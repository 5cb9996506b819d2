-- The filling is the first among those that are left.
use Rattle.sm_moves.proofs.Imports.{◌≡◌, map, drop, filling, fillings_of, code_of}
use Rattle.sm_syntax.specs.declared.program.Filling.{Filling}
use Rattle.sm_moves.proofs.filled.filling_at.Given as goal

abbrev pub invariant-loop-f : goal.invariant-loop-f
invariant-loop-f l =
    filling (map (λ (f : Filling). (f.hole, code_of f.block)) (drop l.f-index l.f-items)) l.hole ≡ filling (fillings_of l.fillings) l.hole
