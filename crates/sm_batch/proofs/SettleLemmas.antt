-- What the steps of a group do to what is kept is what the tasks ask.
use Rattle.sm_batch.proofs.Imports.{◌≡◌, ℕ, ◌+◌, Bool, true, false, not, if◌then◌else◌, Option, Some, None, IfSome, IsSome, List, [], ◌∷◌, map, All, refl, sym, ap, subst, ◌∙◌, inl, inr, cond, AllZip, count_by, lookup, remove_entry, bytes_eq, All-head, All-tail, promoted, Parts, HasText, parts_of, Task, Kept, Step, Entries, IsAccepted, AreAccepted, is_hit, wanted, looked_up, IsKept, IsLeftOut, ArePut, Settles, key_of, IsStep, after_look, after_looks, with_kept, IsPutOrNot, ArePutOrNot, AreSafe, entry_of}
use Rattle.std.proofs.lemmas.List.Sums.{sum_by-cons}
use Rattle.sm_batch.specs.Keys.{is_key_of}
use Rattle.sm_batch.proofs.EntryLemmas.{one_key, accepted-promoted, accepted-remove_entry, accepted-put}

module _ (Replies : Parts → List ℕ → Type 0) (Accepts : Parts → Type 0) (takes : Parts → List ℕ → Bool) (start : Entries) where
  abbrev Does : Task → Step → Type 0
  Does = IsStep Replies Accepts takes start

  abbrev Accepted : Entries → Type 0
  Accepted = AreAccepted Replies Accepts

  -- as many steps are hits as tasks are
  pub hits_counted : (ts : List Task) (ss : List Step) → AllZip Does ts ss
      → count_by (λ (s : Step). s.hit) ss ≡ count_by (is_hit takes start) (map parts_of ts)
  hits_counted [] [] does = refl
  hits_counted [] (s ∷ ss) does = absurd does
  hits_counted (t ∷ ts) [] does = absurd does
  hits_counted (t ∷ ts) (s ∷ ss) does =
      sum_by-cons (λ (s : Step). cond s.hit 1 0) s ss
      ∙ ap (λ b. cond b 1 0 + count_by (λ (s : Step). s.hit) ss) does.0.hit
      ∙ ap (λ n. cond (is_hit takes start (parts_of t)) 1 0 + n) (hits_counted ts ss does.1)
      ∙ sym (sum_by-cons (λ t. cond (is_hit takes start t) 1 0) (parts_of t) (map parts_of ts))

  -- a look-up by a step's key is one by the task's
  look_is : (t : Task) (s : Step) (entries : Entries) → Does t s → after_look s entries
      ≡ (if is_hit takes start (parts_of t) then promoted (is_key_of (parts_of t)) entries else remove_entry (is_key_of (parts_of t)) entries)
  unfolding is_key_of
  look_is t s entries does =
      ap (λ b. if b then promoted (bytes_eq s.key.items) entries else remove_entry (bytes_eq s.key.items) entries) does.hit
      ∙ ap (λ k. if is_hit takes start (parts_of t) then promoted (bytes_eq k) entries else remove_entry (bytes_eq k) entries) does.key

  pub looks_are : (ts : List Task) (ss : List Step) (entries : Entries) → AllZip Does ts ss
      → after_looks ss entries ≡ looked_up (is_hit takes start) (map parts_of ts) entries
  looks_are [] [] entries does = refl
  looks_are [] (s ∷ ss) entries does = absurd does
  looks_are (t ∷ ts) [] entries does = absurd does
  looks_are (t ∷ ts) (s ∷ ss) entries does =
      ap (after_looks ss) (look_is t s entries does.0)
      ∙ looks_are ts ss (if is_hit takes start (parts_of t) then promoted (is_key_of (parts_of t)) entries else remove_entry (is_key_of (parts_of t)) entries)
      does.1

  -- what was put for tasks took what was kept to `after`
  abbrev Puts : ℕ → List Parts → Entries → Entries → Type 0
  Puts capacity ts after before = ArePut (IsKept Replies Accepts takes) capacity ts before after

  -- what is left out of steps is left out of their tasks
  left_out : (t : Task) (s : Step) (before : Entries) → Does t s → s.hit ≡ false
      → (IsSome s.fresh → lookup (bytes_eq s.key.items) before ≡ None)
      → IsLeftOut (IsKept Replies Accepts takes) (parts_of t) before
  unfolding is_key_of
  left_out t s before does hit left entry kept =
      ap (λ k. lookup (bytes_eq k) before) (sym does.key) ∙ left (does.some hit kept.accepted.0)

  -- a hit puts nothing
  pub puts_are : (capacity : ℕ) (ts : List Task) (ss : List Step) (before after : Entries) → AllZip Does ts ss
      → ArePutOrNot capacity ss before after
      → ArePut (IsKept Replies Accepts takes) capacity (wanted takes start (map parts_of ts)) before after
  puts_are capacity [] [] before after does puts = puts
  puts_are capacity [] (s ∷ ss) before after does puts = absurd does
  puts_are capacity (t ∷ ts) [] before after does puts = absurd does
  puts_are capacity (t ∷ ts) (s ∷ ss) before after does puts =
      by (is_hit takes start (parts_of t)) does.0.hit puts.1 (puts_are capacity ts ss puts.0 after does.1 puts.2)
    where
      between : Entries
      between = puts.0

      kept : (k : Kept) → s.fresh ≡ Some k → IsKept Replies Accepts takes (parts_of t) (entry_of k)
      kept k is = subst (λ o. IfSome o (λ k. IsKept Replies Accepts takes (parts_of t) (entry_of k))) is does.0.kept

      by : (b : Bool) → s.hit ≡ b → IsPutOrNot capacity s before between
          → Puts capacity (wanted takes start (map parts_of ts)) after between
          → Puts capacity (cond (not b) (parts_of t ∷ wanted takes start (map parts_of ts)) (wanted takes start (map parts_of ts))) after before
      by true hit (inl put) rest = let none = does.0.none hit in let some = put.1 in cc
      by true hit (inr left) rest = subst (Puts capacity (wanted takes start (map parts_of ts)) after) left.0 rest
      by false hit (inl put) rest =
          let is : between ≡ with_kept capacity (key_of (parts_of t)) (entry_of put.0) before =
          put.2 ∙ ap (λ key. with_kept capacity key (entry_of put.0) before) does.0.key in
          inl (entry_of put.0, kept put.0 put.1, subst (Puts capacity (wanted takes start (map parts_of ts)) after) is rest)
      by false hit (inr left) rest =
          inr (left_out t s before does.0 hit left.1, subst (Puts capacity (wanted takes start (map parts_of ts)) after) left.0 rest)

  -- what is kept stays the accepting reply
  accepted_look : (s : Step) (entries : Entries) → Accepted entries → Accepted (after_look s entries)
  accepted_look s entries kept = by s.hit
    where
      by : (b : Bool) → Accepted (if b then promoted (bytes_eq s.key.items) entries else remove_entry (bytes_eq s.key.items) entries)
      by true = accepted-promoted Replies Accepts (bytes_eq s.key.items) entries kept
      by false = accepted-remove_entry Replies Accepts (bytes_eq s.key.items) entries kept

  pub accepted_looks : (ss : List Step) (entries : Entries) → Accepted entries → Accepted (after_looks ss entries)
  accepted_looks [] entries kept = kept
  accepted_looks (s ∷ ss) entries kept = accepted_looks ss (after_look s entries) (accepted_look s entries kept)

  pub accepted_puts : (capacity : ℕ) (ss : List Step) (before after : Entries) → AreSafe Replies Accepts ss
      → ArePutOrNot capacity ss before after → Accepted before → Accepted after
  accepted_puts capacity [] before after safe puts kept = subst Accepted puts kept
  accepted_puts capacity (s ∷ ss) before after safe puts kept = accepted_puts capacity ss puts.0 after safe.1 puts.2 (by puts.1)
    where
      own : (k : Kept) → s.fresh ≡ Some k → (u : Parts) → HasText u → key_of u ≡ s.key.items → IsAccepted Replies Accepts u k.reply.items
      own k is =
          subst (λ o. IfSome o (λ (k : Kept). (u : Parts) → HasText u → key_of u ≡ s.key.items → IsAccepted Replies Accepts u k.reply.items))
          is safe.0

      by : IsPutOrNot capacity s before puts.0 → Accepted puts.0
      by (inl put) =
          subst Accepted (sym put.2)
          (accepted-put Replies Accepts before capacity s.key.items (entry_of put.0) kept (own put.0 put.1))
      by (inr left) = subst Accepted (sym left.0) kept

  -- what the steps of spelled tasks have may be put
  pub steps_safe : (ts : List Task) (ss : List Step) → AllZip Does ts ss → All (λ (t : Task). HasText (parts_of t)) ts
      → AreSafe Replies Accepts ss
  steps_safe [] [] does texts = tt
  steps_safe [] (s ∷ ss) does texts = absurd does
  steps_safe (t ∷ ts) [] does texts = absurd does
  steps_safe (t ∷ ts) (s ∷ ss) does texts =
      (by s.fresh does.0.kept, steps_safe ts ss does.1 (All-tail (λ (t : Task). HasText (parts_of t)) t ts texts))
    where
      text : HasText (parts_of t)
      text = All-head (λ (t : Task). HasText (parts_of t)) t ts texts

      by : (o : Option Kept) → IfSome o (λ (k : Kept). IsKept Replies Accepts takes (parts_of t) (entry_of k))
          → IfSome o (λ (k : Kept). (u : Parts) → HasText u → key_of u ≡ s.key.items → IsAccepted Replies Accepts u k.reply.items)
      by None kept = tt
      by (Some k) kept = λ u h same.
          subst (λ v. IsAccepted Replies Accepts v k.reply.items) (one_key (parts_of t) u text h (sym does.0.key ∙ sym same)) kept.accepted

  -- so what steps do to what is kept is what their tasks ask
  pub settled : (capacity : ℕ) (ts : List Task) (ss : List Step) (after : Entries) → AllZip Does ts ss
      → ArePutOrNot capacity ss (after_looks ss start) after
      → Settles Replies Accepts takes capacity (map parts_of ts) start after
  settled capacity ts ss after does puts =
      subst (λ e. ArePut (IsKept Replies Accepts takes) capacity (wanted takes start (map parts_of ts)) e after)
      (looks_are ts ss start does) (puts_are capacity ts ss (after_looks ss start) after does puts)
