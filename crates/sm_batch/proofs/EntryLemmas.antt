-- What is kept stays the accepting reply to the task of its key.
use Rattle.sm_batch.proofs.Imports.{◌≡◌, ℕ, Bool, true, ◌⊎◌, Some, List, Contains, sym, subst, ◌∙◌, inl, inr, lookup, remove_entry, bytes_eq, lru_cache, promoted, put_entries, Parts, HasText, Entry, Entries, IsAccepted, AreAccepted}
use Rattle.std.proofs.lemmas.Slice.Eq.{bytes_eq-Decides}
use Rattle.lru.proofs.CallerLemmas.{Contains-promoted, Contains-remove_entry, Contains-put_entries, Contains-lookup}
use Rattle.sm_syntax.specs.text.Spells.{Spells}
use Rattle.sm_text.proofs.Complete.Tasks.{one_parse}
use Rattle.sm_text.proofs.RoundTrip.Tasks.{reads_back}
use Rattle.sm_batch.specs.Keys.{key_of, is_key_of}

-- a task's key spells it
key_spells : (t : Parts) → HasText t → Spells (key_of t) t
unfolding key_of
key_spells t h = reads_back t h

-- tasks with one key are one task
pub one_key : (t u : Parts) → HasText t → HasText u → key_of t ≡ key_of u → t ≡ u
one_key t u h i same =
    let spelled : Spells (key_of u) t = subst (λ b. Spells b t) same (key_spells t h) in
    one_parse (key_of u) t u spelled.text (key_spells u i).text

-- what is found under a task's key is that of the task
pub key_found : (t : Parts) (key : List ℕ) → is_key_of t key ≡ true → key_of t ≡ key
unfolding is_key_of
key_found t key found = (bytes_eq-Decides (key_of t) key).0 found

module _ (Replies : Parts → List ℕ → Type 0) (Accepts : Parts → Type 0) where
  -- so it is the accepting reply to the task
  pub found_accepted : (entries : Entries) → AreAccepted Replies Accepts entries → (t : Parts) → HasText t
      → (entry : Entry) → lookup (is_key_of t) entries ≡ Some entry → IsAccepted Replies Accepts t entry.reply
  found_accepted entries kept t h entry found =
      let at = Contains-lookup (is_key_of t) entries entry found in
      kept at.0 entry at.1 t h (key_found t at.0 at.2)

  pub accepted-promoted : (test : List ℕ → Bool) (entries : Entries) → AreAccepted Replies Accepts entries
      → AreAccepted Replies Accepts (promoted test entries)
  accepted-promoted test entries kept key entry at = kept key entry (Contains-promoted test entries (key, entry) at)

  pub accepted-remove_entry : (test : List ℕ → Bool) (entries : Entries) → AreAccepted Replies Accepts entries
      → AreAccepted Replies Accepts (remove_entry test entries)
  accepted-remove_entry test entries kept key entry at =
      kept key entry (Contains-remove_entry test entries (key, entry) at)

  pub accepted-put : (entries : Entries) (capacity : ℕ) (key : List ℕ) (entry : Entry) → AreAccepted Replies Accepts entries
      → ((t : Parts) → HasText t → key_of t ≡ key → IsAccepted Replies Accepts t entry.reply)
      → AreAccepted Replies Accepts (put_entries bytes_eq (lru_cache entries capacity) key entry)
  accepted-put entries capacity key entry kept own other given at t h same =
      by (Contains-put_entries bytes_eq (lru_cache entries capacity) key entry (other, given) at)
    where
      -- it is what was put, under the key or an equal one
      put : (given ≡ entry) → (other ≡ key) → IsAccepted Replies Accepts t given.reply
      put is under =
          subst (λ e. IsAccepted Replies Accepts t e.reply) (sym is) (own t h (same ∙ under))

      by : Contains entries (other, given)
          ⊎ ((given ≡ entry) × ((other ≡ key) ⊎ ((w : Entry) × Contains entries (other, w) × (bytes_eq key other ≡ true))))
          → IsAccepted Replies Accepts t given.reply
      by (inl was) = kept other given was t h same
      by (inr (is, inl under)) = put is under
      by (inr (is, inr old)) = put is (sym ((bytes_eq-Decides key other).0 old.2))
