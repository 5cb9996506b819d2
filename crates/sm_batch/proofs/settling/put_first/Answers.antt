use Rattle.sm_batch.proofs.Imports.{ap, ◌∙◌, ℕ, Vec, Global, bytes_eq, LruCache, Kept, entries_of, entry_of}
use Rattle.sm_batch.proofs.MapLemmas.{images-promoted}
use Rattle.sm_batch.proofs.settling.put_first.Goals as goal

pub returns-clause-entries : goal.returns-clause-entries
returns-clause-entries c =
    ap (λ (v : LruCache (Vec ℕ Global) Kept). entries_of v.entries) c.promote.ensures.entries
    ∙ images-promoted (λ (v : Vec ℕ Global). v.items) entry_of (bytes_eq c.args.key.now.items) c.args.cache.now.entries
