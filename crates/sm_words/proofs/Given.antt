-- A required word of a command has its text, wherever `clap` takes the words.
use Rattle.sm_words.proofs.Imports.{◌≡◌, ◌≢◌, ◌∙◌, ◌<◌, ◌≤◌, ◌&&◌, ℕ, zero, suc, Bool, true, false, not, List, [], ◌∷◌, map, length, is_some, Option, Some, None, Result, Ok, Err, IfOk, codes, refl, sym, ap, subst, inl, inr, arith, true≢false, slice_get, unwrap_or, MatchResult, bytes_eq, bytes_eq-Decides, App, has_simple_rules, matches_of, HasMatchesOf, Rule, Text, first_of, is_empty, rows_of, is_free_arg, is_simple_arg, rule_of, Command, both, first_value-rows, command_of, required_word, Words, HasRequired, Help, Version, About}
use Rattle.std.specs.List.{All, list_all, slice_index_or}
use Rattle.clap.specs.Built.{IsParsedFrom, IsPlainArg}
use Rattle.clap.specs.Facts.{args_of, unwrap_or_range}
use Rattle.clap.specs.Faults.{fault_of, has_free_rules, is_simple_and_free}
use Rattle.clap.specs.Kinds.{FailsBy, IsAmong}
use Rattle.clap.specs.Matches.{first_value, found_of}
use Rattle.clap.specs.Simple.{app_of}
use Rattle.clap.specs.Values.{kind_of}
use Rattle.clap.specs.declared.builder.arg.Arg.{Arg}
use Rattle.clap.specs.declared.parser.matches.ArgMatches.{ArgMatches}
use Rattle.clap.proofs.CallerLemmas.{required_has_value}
use Rattle.clap.specs.declared.builder.range.ValueRange.{ValueRange}
use Rattle.clap.specs.declared.error.Error.{Error}
use Rattle.clap.specs.declared.error.kind.ErrorKind.TheVariants.{OutOfMemory}
use Rattle.clap.proofs.OnLiterals.{clap_on_literals}
use Rattle.clap.proofs.SimpleLemmas.{is_false, is_nil, plain_fields}
use Rattle.clap.proofs.TakesLemmas.{each_rule}
use Rattle.clap.specs.declared.parser.matches.Found.{Found}
use Rattle.sm_words.specs.Command.{about_command, batch_command, check_command, explain_command, gen_command, print_command, replay_command, suggest_command, trim_command, verify_command}
use Rattle.sm_words.specs.Words.{word_faults, argument_text, Verb, Check, Verify, Replay, Print, Suggest, Gen, Explain, Batch, Trim}

is_none : {X : Type 0} (o : Option X) → not (is_some o) ≡ true → o ≡ None
is_none None e = refl
is_none (Some x) e = absurd (true≢false (sym e))

-- whether no other rule than the one at the place has the id
abbrev is_alone : ℕ → Text → List Rule → Bool
is_alone k id [] = true
is_alone zero id (r ∷ rest) = list_all (λ s. not (bytes_eq s.id id)) rest
is_alone (suc k) id (r ∷ rest) = not (bytes_eq r.id id) && is_alone k id rest

-- whether a word with the id, at the place, is read by itself
abbrev pub is_read : App → ℕ → Text → Bool
is_read app k id = (has_simple_rules app.top && (has_free_rules app.top && not app.top.subcommand_negates_reqs))
    && (is_alone k id app.top.rules && (not (bytes_eq id []) && (not (bytes_eq id (codes "help")) && not (bytes_eq id (codes "version")))))

only_there : (xs : List Arg) (k : ℕ) (id : Text) → is_alone k id (map rule_of xs) ≡ true → (j : ℕ) (e : Arg) → j < length xs
    → bytes_eq (slice_index_or xs j e).id.now id ≡ true → j ≡ k
only_there [] k id h j e lt same = absurd (omega arith)
only_there (x ∷ xs) zero id h zero e lt same = refl
only_there (x ∷ xs) zero id h (suc j) e lt same =
    let other : bytes_eq (slice_index_or xs j e).id.now id ≡ false =
    is_false _ (each_rule (λ s. not (bytes_eq s.id id)) xs h j e (omega arith)) in
    absurd (true≢false (sym same ∙ other))
only_there (x ∷ xs) (suc k) id h zero e lt same = absurd (true≢false (sym same ∙ is_false _ (both _ _ h).0))
only_there (x ∷ xs) (suc k) id h (suc j) e lt same = ap suc (only_there xs k id (both _ _ h).1 j e (omega arith) same)

-- the argument at the place of a rule
at_place : (xs : List Arg) (k : ℕ) (r : Rule) → slice_get (map rule_of xs) k ≡ Some r
    → Arg × (k < length xs) × ((e : Arg) → rule_of (slice_index_or xs k e) ≡ r)
at_place [] k r h = cc
at_place (x ∷ xs) zero r h = (x, omega arith, λ e. ap (λ o. unwrap_or o r) h)
at_place (x ∷ xs) (suc k) r h =
    let f = at_place xs k r h in
    (f.0, omega (arith, f.1), λ e. f.2 e)

-- an argument that has no rule on another and is in no group
plain_arg : (a : Arg) → is_simple_arg a ≡ true → is_free_arg a ≡ true → IsPlainArg a
plain_arg a simple free =
    let s = both _ _ simple in
    let t = both _ _ (both _ _ s.1).1 in
    let f = both _ _ free in
    (is_false _ f.0, is_nil _ (both _ _ f.1).0, is_nil _ s.0, is_nil _ t.0)

no_delimiter : (a : Arg) → is_simple_arg a ≡ true → a.val_delim ≡ None
no_delimiter a simple =
    let p = both (is_empty a.overrides.items) _ simple in
    let q = both (is_empty a.default_vals_ifs.items) _ p.1 in
    let r = both (is_empty a.groups.items) _ q.1 in
    let s = both (not (is_some a.val_delim)) _ r.1 in
    is_none a.val_delim s.0

differs : (id other : Text) → not (bytes_eq id other) ≡ true → id ≡ other → ⊥
differs id other h same = true≢false (sym ((bytes_eq-Decides id other).1 same) ∙ is_false _ h)

-- a required word that is read by itself has a text, where the parse took the words
pub given : (c : Command) (m : ArgMatches) (app : App) (k : ℕ) (id : Text) → app_of c ≡ app → IsParsedFrom c m
    → slice_get app.top.rules k ≡ Some (required_word id) → is_read app k id ≡ true → is_some (first_value (found_of m) id) ≡ true
given c m app k id same parsed rule read =
    let place = at_place (args_of c) k (required_word id) (ap (λ (b : App). slice_get b.top.rules k) same ∙ rule) in
    let d = place.0 in
    let a = slice_index_or (args_of c) k d in
    let is : rule_of a ≡ required_word id = place.2 d in
    let name : a.id.now ≡ id = ap (λ (r : Rule). r.id) is in
    let tests : is_read (app_of c) k id ≡ true = ap (λ (b : App). is_read b k id) same ∙ read in
    let front = both _ _ (both _ _ tests).0 in
    let simple = both _ _ front.0 in
    let free = both _ _ front.1 in
    let back = both _ _ (both _ _ tests).1 in
    let ids = both _ _ back.1 in
    let autos = both _ _ ids.1 in
    let fields = plain_fields c simple.0 in
    let each_simple : All (λ (x : Arg). is_simple_arg x ≡ true) (args_of c) = each_rule (λ r. r.is_simple) (args_of c) simple.1 in
    let each_free : All (λ (x : Arg). is_free_arg x ≡ true) (args_of c) = each_rule (λ r. r.is_free) (args_of c) free.0 in
    let plain : All IsPlainArg (args_of c) = λ j e lt. plain_arg (slice_index_or (args_of c) j e) (each_simple j e lt) (each_free j e lt) in
    let has : is_some (first_value (found_of m) a.id.now) ≡ true =
    required_has_value c m parsed (plain, fields.groups) fields.globals (is_false _ free.1) k d place.1
    (ap (λ (r : Rule). r.required) is) (ap (λ (r : Rule). r.action) is) (no_delimiter a (each_simple k d place.1))
    (let range : a.num_vals ≡ None = ap (λ (r : Rule). r.range) is in
    subst (λ (o : Option ValueRange). 1 ≤ (unwrap_or_range o).start_inclusive) (sym range) (omega arith))
    (λ j e lt eq. only_there (args_of c) k id back.0 j e lt (rw (← name) eq))
    (λ empty. differs id [] ids.0 (sym name ∙ empty))
    (λ auto. elim auto [
      | inl h ↦ differs id (codes "help") autos.0 (sym name ∙ h)
      | inr h ↦ differs id (codes "version") autos.1
          (sym name ∙ h)
    ]) in
    subst (λ t. is_some (first_value (found_of m) t) ≡ true) name has

-- what holds of the matches of a command
pub record IsGiven (verb : Verb) (words : Words) (f : Found) : Type 0 where
  pub texts : (id : Text) → first_value f id ≡ argument_text verb id words
  pub required : HasRequired verb (first_value f)

is_given : (c : Command) (m : ArgMatches) (verb : Verb) (words : Words) → app_of c ≡ command_of verb → IsParsedFrom c m
    → rows_of (found_of m) ≡ matches_of (command_of verb) words → HasRequired verb (first_value (found_of m))
    → IsGiven verb words (found_of m)
unfolding argument_text
is_given c m verb words same parsed rows required = record {
  texts = λ id. first_value-rows (found_of m) id ∙ ap (first_of id) rows;
  required = required;
}

has_required : (c : Command) (m : ArgMatches) (verb : Verb) → app_of c ≡ command_of verb → IsParsedFrom c m
    → HasRequired verb (first_value (found_of m))
unfolding check_command verify_command replay_command print_command suggest_command gen_command explain_command batch_command trim_command
has_required c m Check same parsed =
    (given c m check_command 0 (codes "TASK") same parsed refl refl, given c m check_command 1 (codes "PROOF") same parsed refl refl)
has_required c m Verify same parsed =
    (given c m verify_command 0 (codes "TASK") same parsed refl refl, given c m verify_command 1 (codes "PROOF") same parsed refl refl)
has_required c m Replay same parsed =
    (given c m replay_command 0 (codes "TASK") same parsed refl refl, given c m replay_command 1 (codes "INPUT") same parsed refl refl)
has_required c m Print same parsed = given c m print_command 0 (codes "TASK") same parsed refl refl
has_required c m Suggest same parsed = given c m suggest_command 0 (codes "TASK") same parsed refl refl
has_required c m Explain same parsed = given c m explain_command 0 (codes "TASK") same parsed refl refl
has_required c m Batch same parsed = given c m batch_command 0 (codes "LIST") same parsed refl refl
has_required c m Trim same parsed = (
  given c m trim_command 0 (codes "TASK") same parsed refl refl,
  given c m trim_command 1 (codes "PROOF") same parsed refl refl,
  given c m trim_command 2 (codes "OUT") same parsed refl refl,
)
has_required c m (About what) same parsed = tt
has_required c m Gen same parsed =
    (given c m gen_command 0 (codes "SEED") same parsed refl refl, given c m gen_command 1 (codes "SIZE") same parsed refl refl)

-- each command is one of which `clap` says all
is_free : (verb : Verb) → is_simple_and_free (command_of verb) ≡ true
unfolding check_command verify_command replay_command print_command suggest_command gen_command explain_command batch_command trim_command about_command clap_on_literals
is_free Check = refl
is_free Verify = refl
is_free Replay = refl
is_free Print = refl
is_free Suggest = refl
is_free Gen = refl
is_free Explain = refl
is_free Batch = refl
is_free Trim = refl
is_free (About Help) = refl
is_free (About Version) = refl

-- what a parse gives, at the command of a word
pub parses : (c : Command) (verb : Verb) (words : Words) (r : Result ArgMatches Error) → app_of c ≡ command_of verb
    → IfOk r (IsParsedFrom c) → IfOk r (HasMatchesOf (app_of c) words) →
    (is_simple_and_free (app_of c) ≡ true → FailsBy (fault_of (app_of c) words) r)
    → MatchResult r (λ m. (word_faults verb words ≡ []) × IsGiven verb words (found_of m))
    (λ e. kind_of e ≢ OutOfMemory → word_faults verb words ≢ [])
unfolding word_faults
parses c verb words (Ok m) same parsed matches fails =
    let free : is_simple_and_free (app_of c) ≡ true = ap is_simple_and_free same ∙ is_free verb in (
      ap (λ a. fault_of a words) (sym same) ∙ fails free,
      is_given c m verb words same parsed ((matches (both _ _ free).0).0 ∙ ap (λ a. matches_of a words) same)
          (has_required c m verb same parsed),
    )
parses c verb words (Err e) same parsed matches fails = λ other empty.
    let free : is_simple_and_free (app_of c) ≡ true = ap is_simple_and_free same ∙ is_free verb in
    let none : fault_of (app_of c) words ≡ [] = ap (λ a. fault_of a words) same ∙ empty in
    elim (fails free) [ inl h ↦ other h | inr among ↦ absurd (subst (IsAmong (kind_of e)) none among) ]
