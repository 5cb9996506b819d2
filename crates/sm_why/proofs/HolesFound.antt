-- Tokens of holes: where they stand in a text.
use Rattle.sm_why.proofs.Imports.{◌≡◌, ◌<◌, ◌≤◌, ◌+◌, ℕ, Bool, true, false, ◌&&◌, Option, Some, None, List, length, refl, sym, ap, subst, ⊎_elim, arith, slice_get, AllByRecursion, cases_eq, get_or_from_slice_get, slice_get_within, begins_hole, is_question, BeginsAt}
use Rattle.std.proofs.lemmas.List.{length-map}
use Rattle.sm_syntax.specs.declared.symbol.Symbol.{Symbol}
use Rattle.sm_syntax.specs.text.Symbols.{names_among, symbol_of, symbols_among, symbols_of}
use Rattle.sm_syntax.specs.text.Tokens.{lexed}
use Rattle.sm_syntax.specs.declared.token.Token.{Token}
use Rattle.sm_text.specs.resolving.TokenTexts.{IsTokenOf}
use Rattle.sm_text.proofs.Cut.Lexing.{all_at, IsTokenOf-lexed}

-- a symbol that is there
question_there : (o : Option Symbol) (b : Bool) → (is_question o && b) ≡ true → (x : Symbol) × (o ≡ Some x)
question_there None b e = absurd cc
question_there (Some x) b e = (x, refl)

-- as many symbols as tokens
pub symbols_count : (bytes : List ℕ) → length (symbols_of bytes) ≡ length (lexed bytes).0
unfolding symbols_of symbols_among
symbols_count bytes = length-map (lexed bytes).0 (symbol_of bytes (names_among bytes (lexed bytes).0))

-- a hole begins inside the symbols
pub begins_inside : (symbols : List Symbol) (h k : ℕ) → begins_hole symbols h k ≡ true → k < length symbols
begins_inside symbols h k e =
    let there = question_there (slice_get symbols k) _ e in
    slice_get_within symbols k there.0 there.1

-- a token stands where a hole begins
pub token_there : (bytes : List ℕ) (tokens : List Token) (h k : ℕ) → tokens ≡ (lexed bytes).0 → begins_hole (symbols_of bytes) h k ≡ true
    → k < length tokens
token_there bytes tokens h k cut e =
    let inside = begins_inside (symbols_of bytes) h k e in
    let count = symbols_count bytes in
    let same : length tokens ≡ length (lexed bytes).0 = ap (λ (ts : List Token). length ts) cut in
    omega (arith, inside, count, same)

-- a token's place
abbrev pub IsPlaceOf : List Token → ℕ → ℕ → Type 0
IsPlaceOf tokens k place = (t : Token) × (slice_get tokens k ≡ Some t) × (place ≡ t.place)

-- where a hole begins first
pub begins_at : (bytes : List ℕ) (tokens : List Token) (h k place : ℕ) → tokens ≡ (lexed bytes).0
    → begins_hole (symbols_of bytes) h k ≡ true → ((j : ℕ) → j < k → begins_hole (symbols_of bytes) h j ≡ false)
    → IsPlaceOf tokens k place → BeginsAt bytes h place
begins_at bytes tokens h k place cut begins first at = record {
  number = k;
  begins = begins;
  first = first;
  token = at.0;
  is_token = subst (λ (ts : List Token). slice_get ts k ≡ Some at.0) cut at.1;
  at = at.2;
}

-- a token lies inside its text
pub place_inside : (bytes : List ℕ) (tokens : List Token) (k place : ℕ) → tokens ≡ (lexed bytes).0 → IsPlaceOf tokens k place
    → place ≤ length bytes
place_inside bytes tokens k place cut at =
    let all = subst (AllByRecursion (IsTokenOf bytes)) (sym cut) (IsTokenOf-lexed bytes) in
    let low = slice_get_within tokens k at.0 at.1 in
    let here : IsTokenOf bytes at.0 =
    subst (IsTokenOf bytes) (get_or_from_slice_get tokens k at.0 at.0 at.1) (all_at (IsTokenOf bytes) tokens all k at.0 low) in
    omega (arith, here.within, at.2)

-- one place more without a hole
pub none_more : (symbols : List Symbol) (h n : ℕ) → ((j : ℕ) → j < n → begins_hole symbols h j ≡ false) → begins_hole symbols h n ≡ false
    → (j : ℕ) → j < n + 1 → begins_hole symbols h j ≡ false
none_more symbols h n before here j low =
    ⊎_elim (λ (same : j ≡ n). subst (λ (k : ℕ). begins_hole symbols h k ≡ false) (sym same) here)
    (λ (other : j ≡ n → ⊥). before j (omega arith)) (cases_eq j n)
