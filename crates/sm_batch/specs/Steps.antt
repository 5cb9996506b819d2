-- What is known of a task on its way through a group. No public clause cites it.
use Rattle.std.specs.Prelude.{◌≡◌, ℕ, ◌+◌, Bool, true, false, ◌⊎◌, if◌then◌else◌, Some, None, IfSome, IsSome, is_some, MatchOption, List, [], ◌∷◌, Vec}
use Rattle.std.specs.Map.{lookup, remove_entry}
use Rattle.std.specs.Str.{bytes_eq}
use Rattle.std.specs.declared.alloc.Global.{Global}
use Rattle.lru.specs.LruCache.{lru_cache, promoted, put_entries}
use Rattle.sm_syntax.specs.claim.ConflictFree.{ConflictFree}
use Rattle.sm_syntax.specs.text.Parts.{Parts, task_of}
use Rattle.sm_text.specs.Tasks.{parts_of}
use Rattle.sm_text.specs.declared.task.Task.{Task}
use Rattle.sm_text.specs.printing.Named.{HasText}
use Rattle.sm_batch.specs.declared.batch.Kept.{Kept}
use Rattle.sm_batch.specs.declared.looking.Looked.{Looked}
use Rattle.sm_batch.specs.declared.telling.Step.{Step}
use Rattle.sm_batch.specs.declared.worker.Answered.{Answered}
use Rattle.sm_batch.specs.Entries.{Entry, Entries, IsAccepted}
use Rattle.sm_batch.specs.Groups.{is_hit, IsKept}
use Rattle.sm_batch.specs.Keys.{key_of}
use Rattle.sm_batch.specs.Views.{entry_of}

module _ (Replies : Parts → List ℕ → Type 0) (Accepts : Parts → Type 0)
    (takes : Parts → List ℕ → Bool) where
  -- a task was looked up: its key, and the accepting reply where it's a hit
  pub record IsLookedUp (entries : Entries) (t : Task) (l : Looked) : Type 0 where
    pub key : l.key.items ≡ key_of (parts_of t)
    pub hit : is_some l.reply ≡ is_hit takes entries (parts_of t)
    pub reply : IfSome l.reply (λ r. IsAccepted Replies Accepts (parts_of t) r.items)

  -- a task's reply; and where it's the accepting one, the task is free of conflicts
  pub record IsReply (t : Task) (reply : Vec ℕ Global) : Type 0 where
    pub is : Replies (parts_of t) reply.items
    pub free : HasText (parts_of t) → Accepts (parts_of t) → ConflictFree (task_of (parts_of t))

  -- what is to be done to the entries for a task: a hit has nothing that is to be put, and each
  -- other task that is accepted has something
  pub record IsStep (entries : Entries) (t : Task) (s : Step) : Type 0 where
    pub key : s.key.items ≡ key_of (parts_of t)
    pub hit : s.hit ≡ is_hit takes entries (parts_of t)
    pub kept : IfSome s.fresh (λ k. IsKept Replies Accepts takes (parts_of t) (entry_of k))
    pub none : s.hit ≡ true → s.fresh ≡ None
    pub some : s.hit ≡ false → Accepts (parts_of t) → IsSome s.fresh

-- those that were no hits, of tasks that were looked up
abbrev pub missed : List Task → List Looked → List Task
missed [] ls = []
missed (t ∷ ts) [] = []
missed (t ∷ ts) (l ∷ ls) = if is_some l.reply then missed ts ls else t ∷ missed ts ls

-- how many were no hits
abbrev pub misses : List Looked → ℕ
misses [] = 0
misses (l ∷ ls) = if is_some l.reply then misses ls else 1 + misses ls

-- what is to be kept of an answer that has a certificate
pub record IsKeptOf (a : Answered) (k : Kept) : Type 0 where
  pub given : Vec ℕ Global
  pub some : a.cert ≡ Some given
  pub cert : k.cert.items ≡ given.items
  pub reply : k.reply.items ≡ a.reply.items

-- the step of a hit, and what its reply is
pub record IsStepOfHit (l : Looked) (kept told : Vec ℕ Global) (s : Step) : Type 0 where
  pub key : s.key.items ≡ l.key.items
  pub hit : s.hit ≡ true
  pub none : s.fresh ≡ None
  pub reply : told.items ≡ kept.items

-- the step of an answer, and what its reply is
pub record IsStepOfAnswer (l : Looked) (a : Answered) (told : Vec ℕ Global) (s : Step) : Type 0
  where
    pub key : s.key.items ≡ l.key.items
    pub hit : s.hit ≡ false
    pub fresh : MatchOption s.fresh (a.cert ≡ None) (IsKeptOf a)
    pub reply : told.items ≡ a.reply.items

-- a step and a reply, where `l` was looked up, and answers before and after
abbrev pub IsTold : Looked → List Answered → List Answered → Vec ℕ Global → Step → Type 0
IsTold l before after reply s =
    MatchOption l.reply
    ((a : Answered) × (before ≡ a ∷ after) × IsStepOfAnswer l a reply s)
    (λ kept. (before ≡ after) × IsStepOfHit l kept reply s)

-- replies and steps of all that were looked up: a hit has the reply that is kept, and the others
-- have the answers in their order
abbrev pub AreTold : List Looked → List Answered → List (Vec ℕ Global) → List Step → Type 0
AreTold [] answers replies steps = (answers ≡ []) × (replies ≡ []) × (steps ≡ [])
AreTold (l ∷ ls) answers replies steps =
    (more : List Answered) × (reply : Vec ℕ Global) × (rs : List (Vec ℕ Global))
    × (s : Step) × (ss : List Step)
    × (replies ≡ reply ∷ rs) × (steps ≡ s ∷ ss)
    × IsTold l answers more reply s × AreTold ls more rs ss

-- what may be put for a step is the accepting reply to each task of its key
abbrev pub AreSafe : (Parts → List ℕ → Type 0) → (Parts → Type 0) → List Step → Type 0
AreSafe Replies Accepts [] = Unit {0}
AreSafe Replies Accepts (s ∷ ss) =
    IfSome s.fresh (λ k.
    (t : Parts) → HasText t → key_of t ≡ s.key.items → IsAccepted Replies Accepts t k.reply.items)
    × AreSafe Replies Accepts ss

-- entries after a step's key was looked up
abbrev pub after_look : Step → Entries → Entries
after_look s entries =
    if s.hit then promoted (bytes_eq s.key.items) entries
    else remove_entry (bytes_eq s.key.items) entries

-- after all were, in order
abbrev pub after_looks : List Step → Entries → Entries
after_looks [] entries = entries
after_looks (s ∷ ss) entries = after_looks ss (after_look s entries)

module _ (capacity : ℕ) where
  -- entries with something under a key
  abbrev pub with_kept : List ℕ → Entry → Entries → Entries
  with_kept key entry entries = put_entries bytes_eq (lru_cache entries capacity) key entry

  -- what a step has was put, or it found no memory and was left out, which never happens where
  -- something is kept under its key already
  abbrev pub IsPutOrNot : Step → Entries → Entries → Type 0
  IsPutOrNot s before after =
      ((k : Kept) × (s.fresh ≡ Some k) × (after ≡ with_kept s.key.items (entry_of k) before))
      ⊎ ((after ≡ before)
      × (IsSome s.fresh → lookup (bytes_eq s.key.items) before ≡ None))

  -- what all steps have, in order, each was put, or left out
  abbrev pub ArePutOrNot : List Step → Entries → Entries → Type 0
  ArePutOrNot [] before after = before ≡ after
  ArePutOrNot (s ∷ ss) before after =
      (between : Entries) × IsPutOrNot s before between × ArePutOrNot ss between after
