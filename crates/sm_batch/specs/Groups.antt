-- What a group of tasks does to what is kept. Public clauses cite it.
-- A worker is three meanings here: its replies, which tasks it accepts, and which certificates it
-- takes for a task.
use Rattle.std.specs.Prelude.{◌≡◌, ℕ, Bool, true, false, not, ◌⊎◌, None, if◌then◌else◌, List, [], ◌∷◌, filter}
use Rattle.std.specs.Option.{option_map_or}
use Rattle.std.specs.Map.{lookup, remove_entry}
use Rattle.std.specs.Str.{bytes_eq}
use Rattle.lru.specs.LruCache.{lru_cache, promoted, put_entries}
use Rattle.sm_syntax.specs.text.Parts.{Parts}
use Rattle.sm_batch.specs.Entries.{Entry, Entries, IsAccepted}
use Rattle.sm_batch.specs.Keys.{key_of, is_key_of}

module _ (takes : Parts → List ℕ → Bool) where
  -- whether entries have a certificate for a task that the worker takes
  unfoldable pub is_hit : Entries → Parts → Bool
  is_hit entries t =
      option_map_or (λ entry. takes t entry.cert) (lookup (is_key_of t) entries) false

  -- the tasks of a group that have to be answered, where these are the entries
  abbrev pub wanted : Entries → List Parts → List Parts
  wanted entries ts = filter (λ t. not (is_hit entries t)) ts

-- the entries after the tasks were looked up in order: a hit goes first, what is no hit is dropped
abbrev pub looked_up : (Parts → Bool) → List Parts → Entries → Entries
looked_up hit [] entries = entries
looked_up hit (t ∷ ts) entries =
    looked_up hit ts
    (if hit t then promoted (is_key_of t) entries else remove_entry (is_key_of t) entries)

module _ (IsKept : Parts → Entry → Type 0) where
  -- nothing is put for a task: there is nothing that may be kept for it, or memory is wanting, which
  -- it never is where something is kept under the task's key already
  abbrev pub IsLeftOut : Parts → Entries → Type 0
  IsLeftOut t before = (entry : Entry) → IsKept t entry → lookup (is_key_of t) before ≡ None

module _ (IsKept : Parts → Entry → Type 0) (capacity : ℕ) where
  -- the entries after what may be kept for each of the tasks was put in order, or left out
  abbrev pub ArePut : List Parts → Entries → Entries → Type 0
  ArePut [] before after = before ≡ after
  ArePut (t ∷ ts) before after =
      ((entry : Entry) × IsKept t entry
      × ArePut ts (put_entries bytes_eq (lru_cache before capacity) (key_of t) entry) after)
      ⊎ (IsLeftOut IsKept t before × ArePut ts before after)

module _ (Replies : Parts → List ℕ → Type 0) (Accepts : Parts → Type 0)
    (takes : Parts → List ℕ → Bool) where
  -- what may be kept for a task: its accepting reply with a certificate that is taken
  pub record IsKept (t : Parts) (entry : Entry) : Type 0 where
    pub accepted : IsAccepted Replies Accepts t entry.reply
    pub taken : takes t entry.cert ≡ true

  -- the entries after a group: all tasks are looked up, and then those that were answered are put
  abbrev pub Settles : ℕ → List Parts → Entries → Entries → Type 0
  Settles capacity ts before after =
      ArePut IsKept capacity (wanted takes before ts)
      (looked_up (is_hit takes before) ts before) after
