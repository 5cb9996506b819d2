-- Each key has its cell, or it is among those that are left.
use Rattle.sm_replay.proofs.Imports.{drop, members_view}
use Rattle.sm_replay.proofs.InputTextSound.{CellsSoFar}
use Rattle.sm_replay.proofs.input_text.cells_of.Given as goal

abbrev pub invariant-loop-i : goal.invariant-loop-i
invariant-loop-i l = CellsSoFar l.list (drop l.i-index l.list) (members_view l.cells.entries)
