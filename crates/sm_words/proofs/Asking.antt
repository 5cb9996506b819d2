-- What a command asks for, by the texts that its matches give.
use Rattle.sm_words.proofs.Imports.{◌≡◌, ◌∙◌, ◌⊎◌, inl, inr, [], Option, Some, None, Result, Ok, Err, IfOk, IsErrOf, codes, refl, sym, ap, Text, cache_by, copy_by, effort_by, seed_by, size_by, turns_by, workers_by, HasBadNumber, Words, asked_by, check_by, verify_by, replay_by, print_by, suggest_by, gen_by, explain_by, batch_by, trim_by, word_faults, argument_text, effort_in, IsRefused, Effort, About, Usage}
use Rattle.sm_words.specs.Views.{asked_in}
use Rattle.sm_words.specs.Words.{Verb, Check, Verify, Replay, Print}
use Rattle.sm_words.specs.Words.{Suggest, Gen, Explain, Batch, Trim}
use Rattle.sm_words.specs.declared.words.Request.{Request}
use Rattle.sm_words.specs.declared.words.WordsError.{WordsError}

same_check : {a b a' b' : Option Text} {e e' : Option Effort} → a ≡ a' → b ≡ b' → e ≡ e' → check_by a b e ≡ check_by a' b' e'
same_check p q r = rw (p, q, r) refl

same_gen : {a b a' b' : Option Text} {e e' : Option Effort} → a ≡ a' → b ≡ b' → e ≡ e' → gen_by a b e ≡ gen_by a' b' e'
same_gen p q r = rw (p, q, r) refl

same_verify : {a b c a' b' c' : Option Text} → a ≡ a' → b ≡ b' → c ≡ c' → verify_by a b c ≡ verify_by a' b' c'
same_verify p q r = rw (p, q, r) refl

same_replay : {a b c d a' b' c' d' : Option Text} → a ≡ a' → b ≡ b' → c ≡ c' → d ≡ d' → replay_by a b c d ≡ replay_by a' b' c' d'
same_replay p q r s = rw (p, q, r, s) refl

same_bad : {a b a' b' : Option Text} → a ≡ a' → b ≡ b' → HasBadNumber a b → HasBadNumber a' b'
same_bad p q h = rw (← p, ← q) h

-- what an answer says of the words of a command
pub record Asks (verb : Verb) (words : Words) (r : Result Request WordsError) : Type 0 where
  pub ok : IfOk r (λ (q : Request). (word_faults verb words ≡ []) × (asked_by verb words ≡ Some (asked_in q)))
  pub usage : IsErrOf r Usage → IsRefused (Some verb) words

-- how much a search may do, by texts that are those of the arguments
given_effort : (verb : Verb) (words : Words) (f : Text → Option Text) → ((id : Text) → f id ≡ argument_text verb id words)
    → effort_by f ≡ effort_in verb words
given_effort verb words f texts =
    rw (texts (codes "steps"), texts (codes "turns"), texts (codes "workers"), texts (codes "seconds"), texts (codes "exact"), texts (codes "deeper"), texts (codes "why"))
    refl

pub asks_check : (verb : Verb) (words : Words) (f : Text → Option Text) (r : Result Request WordsError) → verb ≡ Check
    → word_faults verb words ≡ [] → ((id : Text) → f id ≡ argument_text verb id words) →
    IfOk r (λ (q : Request). check_by (f (codes "TASK")) (f (codes "PROOF"))
    (effort_by f) ≡ Some (asked_in q))
    → (IsErrOf r Usage → (f (codes "TASK") ≡ f (codes "PROOF"))
    ⊎ (effort_by f ≡ None)) → Asks verb words r
asks_check Check words f (Ok q) is free texts ok bad = record {
  ok = (free, sym (same_check (texts (codes "TASK")) (texts (codes "PROOF")) (given_effort Check words f texts)) ∙ ok);
  usage = λ u. cc;
}
asks_check Check words f (Err e) is free texts ok bad = record {
  ok = tt;
  usage = λ u. inr (elim (bad u) [
    | inl same ↦ inl (sym (texts (codes "TASK")) ∙ same ∙ texts (codes "PROOF"))
    | inr none ↦ inr (sym (given_effort Check words f texts) ∙ none)
  ]);
}
asks_check Verify words f r is free texts ok bad = cc
asks_check Replay words f r is free texts ok bad = cc
asks_check Print words f r is free texts ok bad = cc
asks_check Gen words f r is free texts ok bad = cc
asks_check Suggest words f r is free texts ok bad = cc
asks_check Explain words f r is free texts ok bad = cc
asks_check Batch words f r is free texts ok bad = cc
asks_check Trim words f r is free texts ok bad = cc
asks_check (About what) words f r is free texts ok bad = cc

pub asks_gen : (verb : Verb) (words : Words) (f : Text → Option Text) (r : Result Request WordsError) → verb ≡ Gen
    → word_faults verb words ≡ [] → ((id : Text) → f id ≡ argument_text verb id words) →
    IfOk r (λ (q : Request). gen_by (f (codes "SEED")) (f (codes "SIZE"))
    (effort_by f) ≡ Some (asked_in q))
    → (IsErrOf r Usage → (seed_by (f (codes "SEED")) ≡ None) ⊎ ((size_by (f (codes "SIZE")) ≡ None)
    ⊎ (effort_by f ≡ None))) → Asks verb words r
asks_gen Gen words f (Ok q) is free texts ok bad = record {
  ok = (free, sym (same_gen (texts (codes "SEED")) (texts (codes "SIZE")) (given_effort Gen words f texts)) ∙ ok);
  usage = λ u. cc;
}
asks_gen Gen words f (Err e) is free texts ok bad = record {
  ok = tt;
  usage = λ u. inr (elim (bad u) [
    | inl none ↦ inl (sym (ap seed_by (texts (codes "SEED"))) ∙ none)
    | inr other ↦ inr (elim other [
      | inl none ↦ inl (sym (ap size_by (texts (codes "SIZE"))) ∙ none)
      | inr none ↦ inr (sym (given_effort Gen words f texts) ∙ none)
    ])
  ]);
}
asks_gen Check words f r is free texts ok bad = cc
asks_gen Verify words f r is free texts ok bad = cc
asks_gen Replay words f r is free texts ok bad = cc
asks_gen Print words f r is free texts ok bad = cc
asks_gen Suggest words f r is free texts ok bad = cc
asks_gen Explain words f r is free texts ok bad = cc
asks_gen Batch words f r is free texts ok bad = cc
asks_gen Trim words f r is free texts ok bad = cc
asks_gen (About what) words f r is free texts ok bad = cc

pub asks_verify : (verb : Verb) (words : Words) (f : Text → Option Text) (r : Result Request WordsError) → verb ≡ Verify
    → word_faults verb words ≡ [] → ((id : Text) → f id ≡ argument_text verb id words) →
    IfOk r (λ (q : Request). verify_by (f (codes "TASK")) (f (codes "PROOF")) (f (codes "workers")) ≡ Some (asked_in q))
    → (IsErrOf r Usage → workers_by (f (codes "workers")) ≡ None) → Asks verb words r
asks_verify Verify words f (Ok q) is free texts ok bad = record {
  ok = (free, sym (same_verify (texts (codes "TASK")) (texts (codes "PROOF")) (texts (codes "workers"))) ∙ ok);
  usage = λ u. cc;
}
asks_verify Verify words f (Err e) is free texts ok bad = record {
  ok = tt;
  usage = λ u. inr (sym (ap workers_by (texts (codes "workers"))) ∙ bad u);
}
asks_verify Check words f r is free texts ok bad = cc
asks_verify Gen words f r is free texts ok bad = cc
asks_verify Replay words f r is free texts ok bad = cc
asks_verify Print words f r is free texts ok bad = cc
asks_verify Suggest words f r is free texts ok bad = cc
asks_verify Explain words f r is free texts ok bad = cc
asks_verify Batch words f r is free texts ok bad = cc
asks_verify Trim words f r is free texts ok bad = cc
asks_verify (About what) words f r is free texts ok bad = cc

pub asks_replay : (verb : Verb) (words : Words) (f : Text → Option Text) (r : Result Request WordsError) → verb ≡ Replay
    → word_faults verb words ≡ [] → ((id : Text) → f id ≡ argument_text verb id words) →
    IfOk r (λ (q : Request). replay_by (f (codes "TASK")) (f (codes "INPUT")) (f (codes "turns")) (f (codes "workers")) ≡ Some (asked_in q))
    → (IsErrOf r Usage → HasBadNumber (f (codes "turns")) (f (codes "workers"))) → Asks verb words r
asks_replay Replay words f (Ok q) is free texts ok bad = record {
  ok = (free, sym (same_replay (texts (codes "TASK")) (texts (codes "INPUT")) (texts (codes "turns")) (texts (codes "workers"))) ∙ ok);
  usage = λ u. cc;
}
asks_replay Replay words f (Err e) is free texts ok bad = record {
  ok = tt;
  usage = λ u. inr (same_bad (texts (codes "turns")) (texts (codes "workers")) (bad u));
}
asks_replay Check words f r is free texts ok bad = cc
asks_replay Gen words f r is free texts ok bad = cc
asks_replay Verify words f r is free texts ok bad = cc
asks_replay Print words f r is free texts ok bad = cc
asks_replay Suggest words f r is free texts ok bad = cc
asks_replay Explain words f r is free texts ok bad = cc
asks_replay Batch words f r is free texts ok bad = cc
asks_replay Trim words f r is free texts ok bad = cc
asks_replay (About what) words f r is free texts ok bad = cc

same_print : {a b a' b' : Option Text} → a ≡ a' → b ≡ b' → print_by a b ≡ print_by a' b'
same_print p q = rw (p, q) refl

same_suggest : {a a' : Option Text} {e e' : Option Effort} → a ≡ a' → e ≡ e' → suggest_by a e ≡ suggest_by a' e'
same_suggest p q = rw (p, q) refl

pub asks_print : (verb : Verb) (words : Words) (f : Text → Option Text) (r : Result Request WordsError) → verb ≡ Print
    → word_faults verb words ≡ [] → ((id : Text) → f id ≡ argument_text verb id words) →
    IfOk r (λ (q : Request). print_by (f (codes "TASK")) (f (codes "copy")) ≡ Some (asked_in q))
    → (IsErrOf r Usage → copy_by (f (codes "copy")) ≡ None) → Asks verb words r
asks_print Print words f (Ok q) is free texts ok bad = record {
  ok = (free, sym (same_print (texts (codes "TASK")) (texts (codes "copy"))) ∙ ok);
  usage = λ u. cc;
}
asks_print Print words f (Err e) is free texts ok bad = record {
  ok = tt;
  usage = λ u. inr (sym (ap copy_by (texts (codes "copy"))) ∙ bad u);
}
asks_print Check words f r is free texts ok bad = cc
asks_print Gen words f r is free texts ok bad = cc
asks_print Verify words f r is free texts ok bad = cc
asks_print Replay words f r is free texts ok bad = cc
asks_print Suggest words f r is free texts ok bad = cc
asks_print Explain words f r is free texts ok bad = cc
asks_print Batch words f r is free texts ok bad = cc
asks_print Trim words f r is free texts ok bad = cc
asks_print (About what) words f r is free texts ok bad = cc

pub asks_suggest : (verb : Verb) (words : Words) (f : Text → Option Text) (r : Result Request WordsError) → verb ≡ Suggest
    → word_faults verb words ≡ [] → ((id : Text) → f id ≡ argument_text verb id words) →
    IfOk r (λ (q : Request). suggest_by (f (codes "TASK")) (effort_by f) ≡ Some (asked_in q))
    → (IsErrOf r Usage → effort_by f ≡ None) → Asks verb words r
asks_suggest Suggest words f (Ok q) is free texts ok bad = record {
  ok = (free, sym (same_suggest (texts (codes "TASK")) (given_effort Suggest words f texts)) ∙ ok);
  usage = λ u. cc;
}
asks_suggest Suggest words f (Err e) is free texts ok bad = record {
  ok = tt;
  usage = λ u. inr (sym (given_effort Suggest words f texts) ∙ bad u);
}
asks_suggest Check words f r is free texts ok bad = cc
asks_suggest Gen words f r is free texts ok bad = cc
asks_suggest Verify words f r is free texts ok bad = cc
asks_suggest Replay words f r is free texts ok bad = cc
asks_suggest Print words f r is free texts ok bad = cc
asks_suggest Explain words f r is free texts ok bad = cc
asks_suggest Batch words f r is free texts ok bad = cc
asks_suggest Trim words f r is free texts ok bad = cc
asks_suggest (About what) words f r is free texts ok bad = cc

same_explain : {a b c a' b' c' : Option Text} → a ≡ a' → b ≡ b' → c ≡ c' → explain_by a b c ≡ explain_by a' b' c'
same_explain p q r = rw (p, q, r) refl

pub asks_explain : (verb : Verb) (words : Words) (f : Text → Option Text) (r : Result Request WordsError) → verb ≡ Explain
    → word_faults verb words ≡ [] → ((id : Text) → f id ≡ argument_text verb id words) →
    IfOk r (λ (q : Request). explain_by (f (codes "TASK")) (f (codes "INPUT")) (f (codes "turns")) ≡ Some (asked_in q))
    → (IsErrOf r Usage → turns_by (f (codes "turns")) ≡ None) → Asks verb words r
asks_explain Explain words f (Ok q) is free texts ok bad = record {
  ok = (free, sym (same_explain (texts (codes "TASK")) (texts (codes "INPUT")) (texts (codes "turns"))) ∙ ok);
  usage = λ u. cc;
}
asks_explain Explain words f (Err e) is free texts ok bad = record {
  ok = tt;
  usage = λ u. inr (sym (ap turns_by (texts (codes "turns"))) ∙ bad u);
}
asks_explain Check words f r is free texts ok bad = cc
asks_explain Verify words f r is free texts ok bad = cc
asks_explain Replay words f r is free texts ok bad = cc
asks_explain Print words f r is free texts ok bad = cc
asks_explain Suggest words f r is free texts ok bad = cc
asks_explain Gen words f r is free texts ok bad = cc
asks_explain Batch words f r is free texts ok bad = cc
asks_explain Trim words f r is free texts ok bad = cc
asks_explain (About what) words f r is free texts ok bad = cc

same_batch : {a b a' b' : Option Text} {e e' : Option Effort} → a ≡ a' → b ≡ b' → e ≡ e' → batch_by a b e ≡ batch_by a' b' e'
same_batch p q r = rw (p, q, r) refl

pub asks_batch : (verb : Verb) (words : Words) (f : Text → Option Text) (r : Result Request WordsError) → verb ≡ Batch
    → word_faults verb words ≡ [] → ((id : Text) → f id ≡ argument_text verb id words) →
    IfOk r (λ (q : Request). batch_by (f (codes "LIST")) (f (codes "cache")) (effort_by f) ≡ Some (asked_in q))
    → (IsErrOf r Usage → (cache_by (f (codes "cache")) ≡ None) ⊎ (effort_by f ≡ None)) → Asks verb words r
asks_batch Batch words f (Ok q) is free texts ok bad = record {
  ok = (free, sym (same_batch (texts (codes "LIST")) (texts (codes "cache")) (given_effort Batch words f texts)) ∙ ok);
  usage = λ u. cc;
}
asks_batch Batch words f (Err e) is free texts ok bad = record {
  ok = tt;
  usage = λ u. inr (elim (bad u) [
    | inl none ↦ inl (sym (ap cache_by (texts (codes "cache"))) ∙ none)
    | inr none ↦ inr (sym (given_effort Batch words f texts) ∙ none)
  ]);
}
asks_batch Check words f r is free texts ok bad = cc
asks_batch Verify words f r is free texts ok bad = cc
asks_batch Replay words f r is free texts ok bad = cc
asks_batch Print words f r is free texts ok bad = cc
asks_batch Suggest words f r is free texts ok bad = cc
asks_batch Gen words f r is free texts ok bad = cc
asks_batch Explain words f r is free texts ok bad = cc
asks_batch Trim words f r is free texts ok bad = cc
asks_batch (About what) words f r is free texts ok bad = cc

same_trim : {a b c a' b' c' : Option Text} → a ≡ a' → b ≡ b' → c ≡ c' → trim_by a b c ≡ trim_by a' b' c'
same_trim p q r = rw (p, q, r) refl

pub asks_trim : (verb : Verb) (words : Words) (f : Text → Option Text) (r : Result Request WordsError) → verb ≡ Trim
    → word_faults verb words ≡ [] → ((id : Text) → f id ≡ argument_text verb id words) →
    IfOk r (λ (q : Request). trim_by (f (codes "TASK")) (f (codes "PROOF")) (f (codes "OUT")) ≡ Some (asked_in q))
    → (IsErrOf r Usage → (f (codes "TASK") ≡ f (codes "OUT")) ⊎ (f (codes "PROOF") ≡ f (codes "OUT"))) → Asks verb words r
asks_trim Trim words f (Ok q) is free texts ok bad = record {
  ok = (free, sym (same_trim (texts (codes "TASK")) (texts (codes "PROOF")) (texts (codes "OUT"))) ∙ ok);
  usage = λ u. cc;
}
asks_trim Trim words f (Err e) is free texts ok bad = record {
  ok = tt;
  usage = λ u. inr (elim (bad u) [
    | inl same ↦ inl (sym (texts (codes "TASK")) ∙ same ∙ texts (codes "OUT"))
    | inr same ↦ inr (sym (texts (codes "PROOF")) ∙ same ∙ texts (codes "OUT"))
  ]);
}
asks_trim Check words f r is free texts ok bad = cc
asks_trim Verify words f r is free texts ok bad = cc
asks_trim Replay words f r is free texts ok bad = cc
asks_trim Print words f r is free texts ok bad = cc
asks_trim Suggest words f r is free texts ok bad = cc
asks_trim Gen words f r is free texts ok bad = cc
asks_trim Explain words f r is free texts ok bad = cc
asks_trim Batch words f r is free texts ok bad = cc
asks_trim (About what) words f r is free texts ok bad = cc
