-- The declared names of a text's task are found by their texts.
use Rattle.sm_replay.proofs.Imports.{◌≡◌, ◌==◌, ℕ, Bool, true, false, if◌then◌else◌, Some, List, [], ◌∷◌, ◌++◌, refl, sym, ap, subst, ◌∙◌, Decides-eqb, position, position_or_len, bytes_eq, Sort, sort_of, is_among, names_of, SpelledNamesAreFound, AreNamed}
use Rattle.std.proofs.Common.{slice_get}
use Rattle.std.specs.Prelude.{unwrap_or}
use Rattle.sm_syntax.specs.declared.symbol.Symbol.{Symbol}
use Rattle.sm_syntax.proofs.Numbering.{slice_get-number}
use Rattle.sm_text.proofs.RoundTrip.Content.{content_declared, content_of_task, task_content}
use Rattle.sm_text.proofs.RoundTrip.Tasks.{AllIn, text_content}
use Rattle.sm_replay.proofs.MembersLemmas.{place_of}

-- a name has a text, by which it is found
abbrev IsFound : List (List ℕ) → ℕ → Type 0
IsFound names x = (text : List ℕ) × (slice_get names x ≡ Some text) × (position (bytes_eq text) names ≡ Some x)

-- a name whose number is the place of its text is found
own_found : (names : List (List ℕ)) (x : ℕ) (text : List ℕ) → is_among names text ≡ true → position_or_len (bytes_eq text) names ≡ x
    → IsFound names x
own_found names x text among own =
    let stored : slice_get names x ≡ Some text = ap (slice_get names) (sym own) ∙ slice_get-number names text among in
    (text, stored, place_of names text x (sym own) stored)

-- a declared name is among the names of its declarations
declared_found : (names : List (List ℕ)) (declared : List (ℕ × Sort)) (rest : List Symbol) → AllIn names (content_declared declared ++ rest)
    → AreNamed names (sort_of declared)
declared_found names [] rest all x sort is = cc
declared_found names (d ∷ ds) rest all x sort is = by (d.0 == x) (Decides-eqb d.0 x).0 (declared_found names ds rest all.1 x sort) is
  where
    by : (b : Bool) → (b ≡ true → d.0 ≡ x) → (sort_of ds x ≡ Some sort → IsFound names x)
        → (if b then Some d.1 else sort_of ds x) ≡ Some sort → IsFound names x
    by true same later is =
        subst (IsFound names) (same refl) (own_found names d.0 (unwrap_or (slice_get names d.0) []) all.0.among all.0.own)
    by false same later is = later is

-- the names of a task that a text spells
pub spelled_found : SpelledNamesAreFound
spelled_found bytes t spells =
    let N : List (List ℕ) → Type 0 = λ l. AllIn l (content_of_task t) in
    let C : List Symbol → Type 0 = λ l. AllIn (names_of bytes) l in
    declared_found t.names t.declared _
    (subst N (sym spells.text.names) (subst C (task_content spells.text.grammar) (text_content bytes).all))
