-- What a contract sees of a batch. Public clauses cite it.
use Rattle.std.specs.Prelude.{ℕ}
use Rattle.sm_batch.specs.Entries.{Entries}

-- a worker, what is kept, of how many tasks at most, and how many tasks were answered by what is
-- kept
pub record BatchValue (W : Type 0) : Type 0 where
  pub worker : W
  pub entries : Entries
  pub capacity : ℕ
  pub hits : ℕ
