-- A violation is a conflict.
use Rattle.sm_replay.proofs.Imports.{ℕ, Task, ConflictFree, Store, Violates}

-- Keeps would hold at the cell at which it fails
pub violation_conflicts : (t : Task) (s : Store) (n : ℕ) → Violates t s n → ¬ ConflictFree t
violation_conflicts t s n v free = v.broken (free n s v.end v.met.meets v.ends.ends v.cell v.output)
