use Rattle.sm_check.proofs.Imports.{◌≡◌, ◌<◌, ◌≤◌, ◌+◌, ◌-◌, ℕ, List, [], length, take, absent, WhereHeld, ReadsOn, Subject, AreRead, HoldsNone, lines_aside, AreTaken}
use Rattle.sm_check.proofs.verifying.check_pieces.Given as goal

abbrev pub invariant-loop-count : goal.invariant-loop-count
invariant-loop-count g l = record {
  within : l.place ≤ l.file.limit;
  room : 0 < length l.piece;
  number : l.lines.number + length (lines_aside l.aside) ≤ l.initial.lines.number + l.place;
  gone : g.H.Shelf.file l.initial.shelf l.file.name.now ≡ absent → HoldsNone l.aside;
  read : (bytes : List ℕ) × WhereHeld (g.H.Shelf.file l.initial.shelf l.file.name.now) (λ held. bytes ≡ take l.place held)
      × ((s : Subject) → AreTaken l.initial.lines l.initial.unfinished s [] → AreRead l.lines (lines_aside l.aside) l.unfinished s bytes)
      × (length bytes ≡ l.place) × ReadsOn l.file.name.now (g.H.Shelf.given l.initial.shelf) (g.H.Shelf.given l.shelf) bytes;
  same : (other : List ℕ) → g.H.Shelf.file l.shelf other ≡ g.H.Shelf.file l.initial.shelf other;
  count : g.H.Shelf.read_faults l.shelf ≡ g.H.Shelf.read_faults l.initial.shelf;
  writes : g.H.Shelf.write_faults l.shelf ≡ g.H.Shelf.write_faults l.initial.shelf;
}

abbrev pub decreases-loop-count : goal.decreases-loop-count
decreases-loop-count g l = l.file.limit - l.place
