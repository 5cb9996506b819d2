-- What the reading of a text tells of whether some task begins with it, or is it.
use Rattle.sm_follow.proofs.Imports.{◌≡◌, ℕ, ◌<◌, ◌==◌, Bool, true, false, true≢false, Option, Some, None, List, [], ◌∷◌, ◌++◌, length, map, append_assoc, append-nil, eq-eqb, eqb-true, refl, sym, ap, subst, ◌∙◌, arith, Decides, Symbol, names_of, symbol_of, symbols_of, lexed, Token, LexFault, AreTasks, IsFault, IsFirstFault, IsUnexpected, IsViable, IsWhole, Stands, at_token, at_end, TextError, all_symbols, whole_text, Ascends, before_end, behind-ascends, lexed-ascends, map-append, symbols-map, shorter-viable, IsBegun, IsComplete, NestsLast, NestsNowhere}
use Rattle.sm_syntax.specs.text.MarkedSymbols.{plain}
use Rattle.sm_syntax.specs.text.Parts.{Parts}
use Rattle.sm_syntax.specs.text.Spells.{IsInGrammar}
use Rattle.sm_text.specs.declared.error.TextError.TheVariants as error
use Rattle.sm_text.proofs.Complete.Parsers.{unmarked-plain}

none_is_some : (f : LexFault) → (let o : Option LexFault = None in o) ≡ Some f → ⊥
none_is_some f e = cc

-- ---- a text that is read

read_complete : (text : List ℕ) (t : Parts) → IsInGrammar text t → IsComplete text
read_complete text t p = record {
  tokens = p.tokens;
  whole = record { spelled = map plain (symbols_of text); grammar = (t, p.grammar); all = unmarked-plain (symbols_of text) };
}

-- what is whole can go on
whole_viable : (ts : List Symbol) → IsWhole AreTasks ts → IsViable AreTasks ts
whole_viable ts w = record { spelled = w.spelled; grammar = w.grammar; more = []; begins = w.all ∙ sym (append-nil ts) }

read_begun : (text : List ℕ) (t : Parts) → IsInGrammar text t → IsBegun text
read_begun text t p =
    let c = read_complete text t p in
    record { tokens = c.tokens; viable = whole_viable (symbols_of text) c.whole }

pub begun_decides : (text : List ℕ) (t : Parts) → IsInGrammar text t → Decides true (IsBegun text)
begun_decides text t p = (λ same. read_begun text t p, λ begun. refl)

pub complete_decides : (text : List ℕ) (t : Parts) → IsInGrammar text t → Decides true (IsComplete text)
complete_decides text t p = (λ same. read_complete text t p, λ complete. refl)

-- ---- a text that is refused

-- a text with a lexical fault has no tokens to its end
no_tokens : (text : List ℕ) (f : LexFault) → (lexed text).1 ≡ Some f → (lexed text).1 ≡ None → ⊥
no_tokens text f is none = none_is_some f (sym none ∙ is)

-- each token stands before the end
inside : (text : List ℕ) (us vs : List Token) (u : Token) → (lexed text).0 ≡ us ++ u ∷ vs → u.place < length text
inside text us vs u cut =
    let own =
    behind-ascends 0 (length text) us (u ∷ vs) (lexed text).1
    (subst (λ (ts : List Token). Ascends 0 ts (lexed text).1 (length text)) cut (lexed-ascends text)) in
    let h = before_end _ (length text) vs (lexed text).1 own.1 in
    omega (arith, h)

-- no task begins with symbols of which the first ones don't go on
stuck : (text : List ℕ) (us vs : List Token) (u : Token) → (lexed text).0 ≡ us ++ u ∷ vs →
    (IsViable AreTasks (map (symbol_of text (names_of text)) us ++ symbol_of text (names_of text) u ∷ []) → ⊥) →
    IsViable AreTasks (symbols_of text) → ⊥
stuck text us vs u cut none viable =
    let f = symbol_of text (names_of text) in
    let all : symbols_of text ≡ (map f us ++ f u ∷ []) ++ map f vs =
    symbols-map text ∙ ap (map f) cut ∙ map-append f us (u ∷ vs) ∙ sym (append_assoc (map f us) (f u ∷ []) (map f vs)) in
    none (shorter-viable (map f us ++ f u ∷ []) (map f vs) (symbols_of text) all viable)

not_equal : (m n : ℕ) → m < n → (m == n) ≡ true → ⊥
not_equal m n less same = omega (arith, less, eqb-true m n same)

expected_begun : (text : List ℕ) (place : ℕ) (before : List Symbol) (next : Option Symbol) → Stands (whole_text text) place before next →
    IsUnexpected AreTasks before next → Decides (place == length text) (IsBegun text)
expected_begun text place before next (at_token us vs u cut) x = (
  λ same. absurd (not_equal u.place (length text) (inside text us vs u cut) same),
  λ begun. absurd (stuck text us vs u cut x.1 begun.viable),
)
expected_begun text place before next (at_end none) x = (
  λ same. record { tokens = none; viable = subst (IsViable AreTasks) (sym (symbols-map text)) x.0 },
  λ begun. eq-eqb (length text) (length text) refl,
)

-- a text that is refused where a token was awaited goes on exactly where that is its end
pub expected_decides : (text : List ℕ) (place : ℕ) → IsFirstFault AreTasks (whole_text text) (error.Expected place) →
    Decides (place == length text) (IsBegun text)
expected_decides text place first =
    let x = first.stands in expected_begun text place x.before x.next x.stands x.unexpected

-- where its last token nests too deep it goes on
pub nested_decides : (text : List ℕ) (place : ℕ) → IsFirstFault AreTasks (whole_text text) (error.Nested place) → NestsLast text →
    Decides true (IsBegun text)
nested_decides text place first last =
    (λ same. record { tokens = last.tokens; viable = last.last place first.stands }, λ begun. refl)

expected_short : (text : List ℕ) (place : ℕ) (before : List Symbol) (next : Option Symbol) → Stands (whole_text text) place before next →
    IsUnexpected AreTasks before next → IsWhole AreTasks (symbols_of text) → ⊥
expected_short text place before next (at_token us vs u cut) x whole =
    stuck text us vs u cut x.1 (whole_viable (symbols_of text) whole)
expected_short text place before next (at_end none) x whole = x.1 (subst (IsWhole AreTasks) (symbols-map text) whole)

short_by : (text : List ℕ) (e : TextError) → IsFault AreTasks (whole_text text) e → NestsNowhere text → IsComplete text → ⊥
short_by text (error.BadByte place) is nowhere c = no_tokens text _ is c.tokens
short_by text (error.WideNumber place) is nowhere c = no_tokens text _ is c.tokens
short_by text (error.BadToken place) is nowhere c = no_tokens text _ is c.tokens
short_by text (error.Expected place) x nowhere c = expected_short text place x.before x.next x.stands x.unexpected c.whole
short_by text (error.Nested place) x nowhere c = nowhere place x
short_by text error.Memory x nowhere c = x

-- a text with a fault is no task
pub falls_short : (text : List ℕ) (e : TextError) → IsFirstFault AreTasks (whole_text text) e → NestsNowhere text →
    Decides false (IsComplete text)
falls_short text e first nowhere =
    (λ same. absurd (true≢false (sym same)), λ complete. absurd (short_by text e first.stands nowhere complete))
