-- From what a batch holds to plain data. No public clause cites it.
use Rattle.std.specs.Prelude.{ℕ, List, map, Vec}
use Rattle.std.specs.declared.alloc.Global.{Global}
use Rattle.sm_batch.specs.declared.batch.Kept.{Kept}
use Rattle.sm_batch.specs.Entries.{Entry, Entries}

-- what is kept, as plain data
abbrev pub entry_of : Kept → Entry
entry_of kept = record { reply = kept.reply.items; cert = kept.cert.items }

-- the entries of a cache, as plain data
abbrev pub entries_of : List (Vec ℕ Global × Kept) → Entries
entries_of cached = map (λ e. (e.0.items, entry_of e.1)) cached
