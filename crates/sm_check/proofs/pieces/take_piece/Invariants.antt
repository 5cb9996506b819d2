-- The lines that end so far are read.
use Rattle.sm_check.proofs.Imports.{◌≤◌, ◌+◌, ◌-◌, ◌++◌, ℕ, List, length, take, Subject, AreRead, lines_aside}
use Rattle.sm_check.proofs.pieces.take_piece.Given as goal

abbrev pub invariant-loop-end : goal.invariant-loop-end
invariant-loop-end g l = record {
  within : l.start ≤ length l.piece;
  number : l.lines.number + length (lines_aside l.aside) ≤ l.initial.lines.number + length (lines_aside l.initial.aside) + l.start;
  read : (s : Subject) (bytes : List ℕ) → AreRead l.initial.lines (lines_aside l.initial.aside) l.initial.unfinished s bytes →
      AreRead l.lines (lines_aside l.aside) l.unfinished s (bytes ++ take l.start l.piece);
}

abbrev pub decreases-loop-end : goal.decreases-loop-end
decreases-loop-end g l = length l.piece - l.start
