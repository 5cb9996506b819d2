-- Words that no command takes ask for nothing.
use Rattle.sm_words.proofs.Imports.{◌≡◌, ◌≢◌, ◌⊎◌, inl, inr, ℕ, Bool, true, false, if◌then◌else◌, List, [], ◌∷◌, Option, Some, None, codes, refl, option_map, option_and_then, bytes_eq, bytes_eq-Decides, Text, cache_by, copy_by, seed_by, size_by, turns_by, workers_by, HasBadNumber, Words, Asked, check, replay, gen, batch, asked, asked_by, asked_where, check_by, verify_by, replay_by, print_by, suggest_by, gen_by, batch_by, explain_by, trim_by, trim, argument_text, effort_in, verb_of, unless, HasBadOption, IsRefused, IsUsage, Effort, About}
use Rattle.sm_words.specs.Words.{Verb, Check, Verify, Replay, Print, Suggest, Gen, Explain, Batch, Trim}

-- a file isn't another of the same name
one_file : (file : Text) (other : Option Asked) → (if bytes_eq file file then None else other) ≡ None
one_file file other = rw ((bytes_eq-Decides file file).1 refl) refl

-- a proof that would be written over the task asks for nothing, nor does a number that is none
no_check : (task proof : Option Text) (effort : Option Effort) → (task ≡ proof) ⊎ (effort ≡ None) → check_by task proof effort ≡ None
no_check None proof effort h = refl
no_check (Some file) proof effort (inl e) = rw (← e) (one_file file (option_map (λ (f : Effort). check file file f) effort))
no_check (Some file) None effort (inr e) = refl
no_check (Some file) (Some given) effort (inr e) =
    rw e (elim (bytes_eq file given) as
    (λ b. (if b then None else option_map (λ (f : Effort). check file given f) None) ≡ None) [ true ↦ refl | false ↦ refl ])

no_gen : (seed size : Option Text) (effort : Option Effort) → (seed_by seed ≡ None) ⊎ ((size_by size ≡ None) ⊎ (effort ≡ None))
    → gen_by seed size effort ≡ None
no_gen seed size effort h = go (seed_by seed) (size_by size) effort h
  where
    go : (s n : Option ℕ) (e : Option Effort) → (s ≡ None) ⊎ ((n ≡ None) ⊎ (e ≡ None))
        → option_and_then (λ (s : ℕ). option_and_then (λ (n : ℕ). option_map (λ (e : Effort). gen s n e) e) n) s ≡ None
    go None n e h = refl
    go (Some s) None e h = refl
    go (Some s) (Some n) None h = refl
    go (Some s) (Some n) (Some e) (inl p) = cc
    go (Some s) (Some n) (Some e) (inr (inl p)) = cc
    go (Some s) (Some n) (Some e) (inr (inr p)) = cc

no_verify : (task proof workers : Option Text) → workers_by workers ≡ None → verify_by task proof workers ≡ None
no_verify None proof workers e = refl
no_verify (Some file) None workers e = refl
no_verify (Some file) (Some given) workers e = rw e refl

no_replay : (task input turns workers : Option Text) → HasBadNumber turns workers → replay_by task input turns workers ≡ None
no_replay None input turns workers h = refl
no_replay (Some file) None turns workers h = refl
no_replay (Some file) (Some given) turns workers (inl e) = rw e refl
no_replay (Some file) (Some given) turns workers (inr e) =
    elim (turns_by turns) as
    (λ o. option_and_then (λ (n : ℕ). option_map (λ (w : ℕ). replay file given n) (workers_by workers)) o ≡ None)
    [ None ↦ refl | Some n ↦ rw e refl ]

no_print : (task copy : Option Text) → copy_by copy ≡ None → print_by task copy ≡ None
no_print None copy e = refl
no_print (Some file) copy e = rw e refl

no_suggest : (task : Option Text) (effort : Option Effort) → effort ≡ None → suggest_by task effort ≡ None
no_suggest None effort e = refl
no_suggest (Some file) effort e = rw e refl

no_explain : (task input turns : Option Text) → turns_by turns ≡ None → explain_by task input turns ≡ None
no_explain None input turns e = refl
no_explain (Some file) input turns e = rw e refl

no_batch : (list cache : Option Text) (effort : Option Effort) → (cache_by cache ≡ None) ⊎ (effort ≡ None)
    → batch_by list cache effort ≡ None
no_batch None cache effort h = refl
no_batch (Some file) cache effort (inl e) = rw e refl
no_batch (Some file) cache effort (inr e) =
    rw e (elim (cache_by cache) as
    (λ o. option_and_then (λ (n : ℕ). option_map (λ (f : Effort). batch file n f) None) o ≡ None) [ None ↦ refl | Some n ↦ refl ])

-- nothing is asked for, whichever is chosen
none_either : (b : Bool) → (let none : Option Asked = None in (if b then none else none) ≡ none)
none_either true = refl
none_either false = refl

-- a trimmed proof that would be written over the task or the proof asks for nothing
no_trim : (task proof out : Option Text) → (task ≡ out) ⊎ (proof ≡ out) → trim_by task proof out ≡ None
no_trim None proof out h = refl
no_trim (Some file) None out h = refl
no_trim (Some file) (Some given) None h = refl
no_trim (Some file) (Some given) (Some o) (inl e) =
    let same : file ≡ o = cc in
    rw same (one_file o (if bytes_eq given o then None else Some (trim o given o)))
no_trim (Some file) (Some given) (Some o) (inr e) =
    let same : given ≡ o = cc in
    rw (same, one_file o (Some (trim file o o)))
    (none_either (bytes_eq file o))

none_asked : (verb : Verb) (words : Words) → HasBadOption verb words → asked_by verb words ≡ None
none_asked Check words h =
    no_check (argument_text Check (codes "TASK") words) (argument_text Check (codes "PROOF") words) (effort_in Check words) h
none_asked Verify words h =
    no_verify (argument_text Verify (codes "TASK") words) (argument_text Verify (codes "PROOF") words)
    (argument_text Verify (codes "workers") words) h
none_asked Replay words h =
    no_replay (argument_text Replay (codes "TASK") words) (argument_text Replay (codes "INPUT") words)
    (argument_text Replay (codes "turns") words) (argument_text Replay (codes "workers") words) h
none_asked Print words h = no_print (argument_text Print (codes "TASK") words) (argument_text Print (codes "copy") words) h
none_asked Suggest words h = no_suggest (argument_text Suggest (codes "TASK") words) (effort_in Suggest words) h
none_asked Explain words h =
    no_explain (argument_text Explain (codes "TASK") words) (argument_text Explain (codes "INPUT") words)
    (argument_text Explain (codes "turns") words) h
none_asked Batch words h =
    no_batch (argument_text Batch (codes "LIST") words) (argument_text Batch (codes "cache") words) (effort_in Batch words) h
none_asked Trim words h =
    no_trim (argument_text Trim (codes "TASK") words) (argument_text Trim (codes "PROOF") words) (argument_text Trim (codes "OUT") words) h
none_asked (About what) words h = absurd h
none_asked Gen words h =
    no_gen (argument_text Gen (codes "SEED") words) (argument_text Gen (codes "SIZE") words) (effort_in Gen words) h

not_taken : {X Y : Type 0} (kinds : List X) (o : Option Y) → (kinds ≢ []) ⊎ (o ≡ None) → unless kinds o ≡ None
not_taken [] o (inl h) = absurd (h refl)
not_taken [] o (inr e) = e
not_taken (k ∷ ks) o h = refl

pub usage_asks_nothing : (words : Words) → IsUsage words → asked words ≡ None
usage_asks_nothing [] h = refl
usage_asks_nothing (word ∷ rest) h = go (verb_of word) (word ∷ rest) h
  where
    go : (verb : Option Verb) (words : Words) → IsRefused verb words → asked_where verb words ≡ None
    go None words h = refl
    go (Some verb) words (inl h) = not_taken _ _ (inl h)
    go (Some verb) words (inr h) = not_taken _ _ (inr (none_asked verb words h))
