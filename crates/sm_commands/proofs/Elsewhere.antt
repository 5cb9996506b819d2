-- No command writes over what it reads.
use Rattle.sm_commands.proofs.Imports.{◌≡◌, ℕ, true, false, if◌then◌else◌, Bool, true≢false, sym, subst, ◌∙◌, List, [], ◌∷◌, Option, Some, None, refl, option_map, option_and_then, WritesElsewhere, CopyName, Words, Asked, check, verify, replay, print, suggest, gen, explain, batch, trim, about, word_faults, asked, asked_by, asked_where, check_by, trim_by, argument_text, effort_in, verb_of, unless, Effort, same_ask}
use Rattle.std.proofs.Common.{codes}
use Rattle.std.specs.Str.{bytes_eq}
use Rattle.std.proofs.lemmas.Slice.Eq.{bytes_eq-Decides}
use Rattle.clap.specs.Walk.{Text}
use Rattle.sm_words.specs.Numbers.{cache_by, copy_by, seed_by, size_by, turns_by, workers_by}
use Rattle.sm_words.specs.declared.command.Verb.{Verb}
use Rattle.sm_words.specs.declared.command.Verb.TheVariants.{About, Check, Verify, Replay, Print, Suggest, Gen, Explain, Batch, Trim}

no_ask : (ask : Asked) → (let o : Option Asked = None in o) ≡ Some ask → ⊥
no_ask ask e = cc

-- the file of the proof that `check` is asked for isn't that of the task
check_elsewhere : (task proof : Option Text) (effort : Option Effort) (ask : Asked) → check_by task proof effort ≡ Some ask
    → WritesElsewhere ask
check_elsewhere None proof effort ask e = absurd (no_ask ask e)
check_elsewhere (Some file) None effort ask e = absurd (no_ask ask e)
check_elsewhere (Some file) (Some given) effort ask e = go (bytes_eq file given) refl effort e
  where
    go : (b : Bool) → bytes_eq file given ≡ b → (f : Option Effort)
        → (if b then None else option_map (λ (f : Effort). check file given f) f) ≡ Some ask → WritesElsewhere ask
    go true is f e = absurd (no_ask ask e)
    go false is None e = absurd (no_ask ask e)
    go false is (Some f) e =
        subst WritesElsewhere (same_ask (check file given f) ask e)
        (λ same. true≢false (sym ((bytes_eq-Decides file given).1 same) ∙ is))

-- the file that `trim` writes isn't that of the task or of the proof
trim_elsewhere : (task proof out : Option Text) (ask : Asked) → trim_by task proof out ≡ Some ask → WritesElsewhere ask
trim_elsewhere None proof out ask e = absurd (no_ask ask e)
trim_elsewhere (Some file) None out ask e = absurd (no_ask ask e)
trim_elsewhere (Some file) (Some given) None ask e = absurd (no_ask ask e)
trim_elsewhere (Some file) (Some given) (Some o) ask e = go (bytes_eq file o) (bytes_eq given o) refl refl e
  where
    go : (b c : Bool) → bytes_eq file o ≡ b → bytes_eq given o ≡ c
        → (if b then None else (if c then None else Some (trim file given o))) ≡ Some ask → WritesElsewhere ask
    go true c is same e = absurd (no_ask ask e)
    go false true is same e = absurd (no_ask ask e)
    go false false is same e =
        subst WritesElsewhere (same_ask (trim file given o) ask e) (
          λ h. true≢false (sym ((bytes_eq-Decides file o).1 h) ∙ is),
          λ h. true≢false (sym ((bytes_eq-Decides given o).1 h) ∙ same),
        )

other_elsewhere : (verb : Verb) (words : Words) (ask : Asked) → asked_by verb words ≡ Some ask → WritesElsewhere ask
other_elsewhere Check words ask e =
    check_elsewhere (argument_text Check (codes "TASK") words) (argument_text Check (codes "PROOF") words) (effort_in Check words) ask e
other_elsewhere Verify words ask e =
    verify_elsewhere (argument_text Verify (codes "TASK") words) (argument_text Verify (codes "PROOF") words)
    (workers_by (argument_text Verify (codes "workers") words)) ask e
  where
    verify_elsewhere : (task proof : Option Text) (workers : Option ℕ) (ask : Asked)
        → option_and_then (λ (t : Text). option_and_then (λ (p : Text). option_map (λ (w : ℕ). verify t p w) workers) proof) task ≡ Some ask
        → WritesElsewhere ask
    verify_elsewhere None proof workers ask e = absurd (no_ask ask e)
    verify_elsewhere (Some t) None workers ask e = absurd (no_ask ask e)
    verify_elsewhere (Some t) (Some p) None ask e = absurd (no_ask ask e)
    verify_elsewhere (Some t) (Some p) (Some w) ask e = subst WritesElsewhere (same_ask (verify t p w) ask e) tt
other_elsewhere Replay words ask e =
    replay_elsewhere (argument_text Replay (codes "TASK") words) (argument_text Replay (codes "INPUT") words)
    (turns_by (argument_text Replay (codes "turns") words)) (workers_by (argument_text Replay (codes "workers") words)) ask e
  where
    replay_elsewhere : (task input : Option Text) (turns workers : Option ℕ) (ask : Asked)
        → option_and_then (λ (t : Text). option_and_then (λ (i : Text).
        option_and_then (λ (n : ℕ). option_map (λ (w : ℕ). replay t i n) workers) turns) input) task ≡ Some ask → WritesElsewhere ask
    replay_elsewhere None input turns workers ask e = absurd (no_ask ask e)
    replay_elsewhere (Some t) None turns workers ask e = absurd (no_ask ask e)
    replay_elsewhere (Some t) (Some i) None workers ask e = absurd (no_ask ask e)
    replay_elsewhere (Some t) (Some i) (Some n) None ask e = absurd (no_ask ask e)
    replay_elsewhere (Some t) (Some i) (Some n) (Some w) ask e = subst WritesElsewhere (same_ask (replay t i n) ask e) tt
other_elsewhere Print words ask e =
    print_elsewhere (argument_text Print (codes "TASK") words) (copy_by (argument_text Print (codes "copy") words)) ask e
  where
    print_elsewhere : (task : Option Text) (copy : Option (Option CopyName)) (ask : Asked)
        → option_and_then (λ (t : Text). option_map (λ (c : Option CopyName). print t c) copy) task ≡ Some ask → WritesElsewhere ask
    print_elsewhere None copy ask e = absurd (no_ask ask e)
    print_elsewhere (Some t) None ask e = absurd (no_ask ask e)
    print_elsewhere (Some t) (Some c) ask e = subst WritesElsewhere (same_ask (print t c) ask e) tt
other_elsewhere Suggest words ask e = suggest_elsewhere (argument_text Suggest (codes "TASK") words) (effort_in Suggest words) ask e
  where
    suggest_elsewhere : (task : Option Text) (effort : Option Effort) (ask : Asked)
        → option_and_then (λ (t : Text). option_map (λ (e : Effort). suggest t e) effort) task ≡ Some ask → WritesElsewhere ask
    suggest_elsewhere None effort ask e = absurd (no_ask ask e)
    suggest_elsewhere (Some t) None ask e = absurd (no_ask ask e)
    suggest_elsewhere (Some t) (Some f) ask e = subst WritesElsewhere (same_ask (suggest t f) ask e) tt
other_elsewhere Explain words ask e =
    explain_elsewhere (argument_text Explain (codes "TASK") words) (argument_text Explain (codes "INPUT") words)
    (turns_by (argument_text Explain (codes "turns") words)) ask e
  where
    explain_elsewhere : (task input : Option Text) (turns : Option ℕ) (ask : Asked)
        → option_and_then (λ (t : Text). option_map (λ (n : ℕ). explain t input n) turns) task ≡ Some ask → WritesElsewhere ask
    explain_elsewhere None input turns ask e = absurd (no_ask ask e)
    explain_elsewhere (Some t) input None ask e = absurd (no_ask ask e)
    explain_elsewhere (Some t) input (Some n) ask e = subst WritesElsewhere (same_ask (explain t input n) ask e) tt
other_elsewhere Batch words ask e =
    batch_elsewhere (argument_text Batch (codes "LIST") words) (cache_by (argument_text Batch (codes "cache") words))
    (effort_in Batch words) ask e
  where
    batch_elsewhere : (list : Option Text) (cache : Option ℕ) (effort : Option Effort) (ask : Asked)
        → option_and_then (λ (l : Text). option_and_then (λ (n : ℕ). option_map (λ (e : Effort). batch l n e) effort) cache) list
        ≡ Some ask → WritesElsewhere ask
    batch_elsewhere None cache effort ask e = absurd (no_ask ask e)
    batch_elsewhere (Some l) None effort ask e = absurd (no_ask ask e)
    batch_elsewhere (Some l) (Some n) None ask e = absurd (no_ask ask e)
    batch_elsewhere (Some l) (Some n) (Some f) ask e = subst WritesElsewhere (same_ask (batch l n f) ask e) tt
other_elsewhere Trim words ask e =
    trim_elsewhere (argument_text Trim (codes "TASK") words) (argument_text Trim (codes "PROOF") words)
    (argument_text Trim (codes "OUT") words) ask e
other_elsewhere (About what) words ask e = subst WritesElsewhere (same_ask (about what) ask e) tt
other_elsewhere Gen words ask e =
    gen_elsewhere (seed_by (argument_text Gen (codes "SEED") words)) (size_by (argument_text Gen (codes "SIZE") words))
    (effort_in Gen words) ask e
  where
    gen_elsewhere : (seed size : Option ℕ) (effort : Option Effort) (ask : Asked)
        → option_and_then (λ (s : ℕ). option_and_then (λ (n : ℕ). option_map (λ (e : Effort). gen s n e) effort) size) seed ≡ Some ask
        → WritesElsewhere ask
    gen_elsewhere None size effort ask e = absurd (no_ask ask e)
    gen_elsewhere (Some s) None effort ask e = absurd (no_ask ask e)
    gen_elsewhere (Some s) (Some n) None ask e = absurd (no_ask ask e)
    gen_elsewhere (Some s) (Some n) (Some f) ask e = subst WritesElsewhere (same_ask (gen s n f) ask e) tt

pub writes_elsewhere : (words : Words) (ask : Asked) → asked words ≡ Some ask → WritesElsewhere ask
writes_elsewhere [] ask e = absurd (no_ask ask e)
writes_elsewhere (word ∷ rest) ask e = go (verb_of word) (word ∷ rest) e
  where
    taken : {X : Type 0} (kinds : List X) (o : Option Asked) → unless kinds o ≡ Some ask → o ≡ Some ask
    taken [] o e = e
    taken (k ∷ ks) o e = absurd (no_ask ask e)

    go : (verb : Option Verb) (words : Words) → asked_where verb words ≡ Some ask → WritesElsewhere ask
    go None words e = absurd (no_ask ask e)
    go (Some verb) words e = other_elsewhere verb words ask (taken (word_faults verb words) (asked_by verb words) e)
