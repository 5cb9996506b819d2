use Rattle.std.proofs.Common.{◌≡◌, ◌<◌, ◌≤◌, ◌-◌, ℕ, List, length, vec_len, take}
use Rattle.sm_io.specs.Files.{WhereHeld}
use Rattle.sm_io.specs.Reads.{ReadsOn}
use Rattle.sm_io.proofs.read.read_by.Given as goal

abbrev pub invariant-loop-bytes : goal.invariant-loop-bytes
invariant-loop-bytes g l = record {
  within : vec_len l.bytes ≤ l.limit;
  room : 0 < length l.piece;
  so_far : WhereHeld (g.H.Shelf.file l.initial.shelf l.name) (λ bytes. l.bytes.items ≡ take (vec_len l.bytes) bytes);
  given : ReadsOn l.name (g.H.Shelf.given l.initial.shelf) (g.H.Shelf.given l.shelf) l.bytes.items;
  same : (other : List ℕ) → g.H.Shelf.file l.shelf other ≡ g.H.Shelf.file l.initial.shelf other;
  count : g.H.Shelf.read_faults l.shelf ≡ g.H.Shelf.read_faults l.initial.shelf;
  writes : g.H.Shelf.write_faults l.shelf ≡ g.H.Shelf.write_faults l.initial.shelf;
}

abbrev pub decreases-loop-bytes : goal.decreases-loop-bytes
decreases-loop-bytes g l = l.limit - vec_len l.bytes
