use Rattle.sm_batch.proofs.Imports.{ap, ◌∙◌, ℕ, Vec, Global, bytes_eq, LruCache, Kept, entries_of, entry_of}
use Rattle.sm_batch.proofs.MapLemmas.{images-remove_entry}
use Rattle.sm_batch.proofs.settling.drop_entry.Goals as goal

pub returns-clause-entries : goal.returns-clause-entries
returns-clause-entries c =
    ap (λ (v : LruCache (Vec ℕ Global) Kept). entries_of v.entries) c.pop_entry.ensures.entries
    ∙ images-remove_entry (λ (v : Vec ℕ Global). v.items) entry_of (bytes_eq c.args.key.now.items) c.args.cache.now.entries
