use Rattle.sm_gen.proofs.Imports.{◌≡◌, map, range_with_len, Code, append, sequence, statement_of, counted, holes}
use Rattle.sm_gen.proofs.building.shared_block.Given as goal

abbrev pub invariant-loop-place : goal.invariant-loop-place
invariant-loop-place l =
    (k : Code) → sequence (map statement_of l.list.items) k ≡ append (counted (holes (range_with_len 1 l.place))) k
