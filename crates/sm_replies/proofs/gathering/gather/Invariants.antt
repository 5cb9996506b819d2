-- What the files so far gave.
use Rattle.sm_replies.proofs.Imports.{◌≡◌, ℕ, List, All, map, take, string_bytes, HasText, AreGiven, GoesOn}
use Rattle.sm_text.specs.Tasks.{parts_of}
use Rattle.sm_replies.proofs.gathering.gather.Given as goal

abbrev pub invariant-names : goal.invariant-names
invariant-names g l = record {
  given : AreGiven (g.H.Shelf.file l.initial.shelf) (g.H.Shelf.read_faults l.initial.shelf) (g.H.Shelf.given l.initial.shelf)
      (g.H.Shelf.given l.shelf) (map string_bytes (take l.name-index l.names)) l.slots.items l.tasks.items
      × All (λ t. HasText (parts_of t)) l.tasks.items;
  quiet : g.H.Shelf.read_faults l.shelf ≡ g.H.Shelf.read_faults l.initial.shelf;
  goes_on : GoesOn (g.H.Shelf.given l.initial.shelf) (g.H.Shelf.given l.shelf);
  same : (other : List ℕ) → g.H.Shelf.file l.shelf other ≡ g.H.Shelf.file l.initial.shelf other;
  writes : g.H.Shelf.write_faults l.shelf ≡ g.H.Shelf.write_faults l.initial.shelf;
}
