use Rattle.sm_gen.proofs.Imports.{◌≡◌, map, range_with_len, Name}
use Rattle.sm_gen.proofs.building.outputs.Given as goal

abbrev pub invariant-loop-place : goal.invariant-loop-place
invariant-loop-place l = map (λ (x : Name). x.0) l.list.items ≡ range_with_len 2 l.place
