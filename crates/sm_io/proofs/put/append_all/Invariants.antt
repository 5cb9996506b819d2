use Rattle.std.proofs.Common.{length, ◌-◌, ◌≡◌, ◌≢◌, ◌≤◌, ℕ, List, take}
use Rattle.sm_io.specs.Files.{absent, longer}
use Rattle.sm_io.proofs.put.append_all.Given as goal

abbrev pub invariant-loop-done : goal.invariant-loop-done
invariant-loop-done g l = record {
  within : l.done ≤ length l.bytes;
  added : g.H.Shelf.file l.shelf l.name ≡ longer (g.H.Shelf.file l.initial.shelf l.name) (take l.done l.bytes);
  held : g.H.Shelf.file l.initial.shelf l.name ≡ absent → l.done ≡ 0;
  others : (other : List ℕ) → other ≢ l.name → g.H.Shelf.file l.shelf other ≡ g.H.Shelf.file l.initial.shelf other;
  count : g.H.Shelf.write_faults l.shelf ≡ g.H.Shelf.write_faults l.initial.shelf;
  keeps : g.H.Shelf.given l.shelf ≡ g.H.Shelf.given l.initial.shelf;
  reads : g.H.Shelf.read_faults l.shelf ≡ g.H.Shelf.read_faults l.initial.shelf;
}

abbrev pub decreases-loop-done : goal.decreases-loop-done
decreases-loop-done g l = length l.bytes - l.done
