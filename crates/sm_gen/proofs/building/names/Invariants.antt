use Rattle.sm_gen.proofs.Imports.{◌≡◌, map, range_with_len, name_of}
use Rattle.sm_gen.proofs.building.names.Given as goal

abbrev pub invariant-loop-number : goal.invariant-loop-number
invariant-loop-number l = l.names ≡ map name_of (range_with_len 0 l.number)
