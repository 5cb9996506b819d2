-- The lines of the groups so far.
use Rattle.sm_replies.proofs.Imports.{◌≡◌, ◌++◌, ℕ, List, length, map, string_bytes, lines_of, AreLinesRead, GoesOn}
use Rattle.sm_replies.proofs.batching.all_lines.Given as goal

abbrev pub invariant-groups : goal.invariant-groups
invariant-groups g l = record {
  lines : (done : List (List ℕ)) × (done ++ map string_bytes l.rest ≡ map string_bytes l.names)
      × AreLinesRead (g.H.Shelf.file l.initial.shelf) (g.H.Shelf.read_faults l.initial.shelf) (g.H.Shelf.given l.initial.shelf)
      (g.H.Shelf.given l.shelf) l.effort done (lines_of l.lines.items);
  quiet : g.H.Shelf.read_faults l.shelf ≡ g.H.Shelf.read_faults l.initial.shelf;
  goes_on : GoesOn (g.H.Shelf.given l.initial.shelf) (g.H.Shelf.given l.shelf);
  same : (other : List ℕ) → g.H.Shelf.file l.shelf other ≡ g.H.Shelf.file l.initial.shelf other;
  writes : g.H.Shelf.write_faults l.shelf ≡ g.H.Shelf.write_faults l.initial.shelf;
  worker : l.batch.worker.effort ≡ l.effort;
}

abbrev pub decreases-groups : goal.decreases-groups
decreases-groups g l = length l.rest
