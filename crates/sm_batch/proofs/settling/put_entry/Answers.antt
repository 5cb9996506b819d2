use Rattle.sm_batch.proofs.Imports.{ap, ◌∙◌, inl, inr, ℕ, ◌-◌, Vec, Global, bytes_eq, LruCache, Kept, entries_of, entry_of}
use Rattle.sm_batch.proofs.LookupLemmas.{none_found}
use Rattle.sm_batch.proofs.MapLemmas.{images-put}
use Rattle.sm_batch.proofs.settling.put_entry.Goals as goal
use Rattle.sm_lemmas.proofs.Tests.{never_true}

pub returns-in-Ok-clause-entries : goal.returns-in-Ok-clause-entries
returns-in-Ok-clause-entries c =
    inl
    (ap (λ (v : LruCache (Vec ℕ Global) Kept). entries_of v.entries) c.in-Ok.ensures.entries
    ∙ images-put (λ (v : Vec ℕ Global). v.items) entry_of (bytes_eq c.args.key.items) c.args.cache.now.entries c.args.key c.args.kept
    (c.args.cache.now.cap - 1))

pub returns-clause-entries : goal.returns-clause-entries
returns-clause-entries c =
    inr (
      ap (λ (v : LruCache (Vec ℕ Global) Kept). entries_of v.entries) c.in-Err.ensures.err,
      none_found c.args.cache.now.entries c.args.key.items (λ some. never_true (c.in-Err.ensures.succeeds some)),
    )
