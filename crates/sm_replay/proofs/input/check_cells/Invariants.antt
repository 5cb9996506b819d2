-- The fault of all cells is that of those that are left.
use Rattle.sm_replay.proofs.Imports.{◌≡◌, members_view, cells_fault}
use Rattle.sm_replay.proofs.input.check_cells.Given as goal

abbrev pub invariant-loop-key : goal.invariant-loop-key
invariant-loop-key l = cells_fault l.name.0 (members_view l.key-iterator) ≡ cells_fault l.name.0 (members_view l.cells.entries)
