-- What the tokens of a part of a text spell, a text of its own spells: their symbols, each before a space.
use Rattle.sm_text.proofs.Imports.{◌≡◌, ℕ, zero, suc, ◌-◌, Bool, true, false, List, [], ◌∷◌, map, take, drop, refl, sym, ap, ◌∙◌, subst, arith, ◌==◌, AllByRecursion, plain, Symbol, IsBlock, symbol_of, names_after, Code, is_word_byte, lexed, HasBlockText, pieces_text, symbols_in, tokens_between, SpellsBlockAt}
use Rattle.std.proofs.Common.{if◌then◌else◌}
use Rattle.sm_syntax.specs.declared.symbol.Symbol.TheVariants as s
use Rattle.sm_text.specs.printing.Pieces.{Piece, Token, space}
use Rattle.sm_text.proofs.RoundTrip.Content.{content}
use Rattle.sm_text.proofs.Prefix.FewerGroups.{block_fewer}
use Rattle.sm_text.proofs.RoundTrip.Fitting.{clean_plain}
use Rattle.sm_text.proofs.RoundTrip.Parts.{IsUnder, pieces_under}
use Rattle.sm_text.proofs.RoundTrip.Tasks.{AllIn, content_in}
use Rattle.sm_text.proofs.RoundTrip.TextTokens.{goes_on, AreApart}
use Rattle.sm_text.proofs.RoundTrip.PieceTokens.{is_reserved}
use Rattle.sm_text.proofs.RoundTrip.TokenBytes.{IsGoodToken, tokens_good}
use Rattle.sm_text.proofs.RoundTrip.Symbols.{known_behind, symbols_are_in}

-- symbols, each before a space
abbrev pub spaced : List Symbol → List Piece
spaced [] = []
spaced (t ∷ ts) = Token t ∷ space ∷ spaced ts

pub spaced-symbols : (ts : List Symbol) → symbols_in (spaced ts) ≡ ts
spaced-symbols [] = refl
spaced-symbols (t ∷ ts) = ap (λ (l : List Symbol). t ∷ l) (spaced-symbols ts)

-- a space goes on with no token
space_ends : (t : Symbol) → goes_on t 32 ≡ false
space_ends (s.Mark m) = by (is_reserved m)
  where
    by : (b : Bool) → (if b then is_word_byte 32 else 32 == 61) ≡ false
    by true = refl
    by false = refl
space_ends (s.Number z) = refl
space_ends (s.Name x) = refl

pub spaced_apart : (names : List (List ℕ)) (ts : List Symbol) → AllIn names ts → AreApart names (spaced ts)
spaced_apart names [] all = tt
spaced_apart names (t ∷ ts) all = (all.0.spelled, space_ends t, (refl, spaced_apart names ts all.1))

all_taken : {T : Type 0} (P : T → Type 0) (n : ℕ) (ts : List T) → AllByRecursion P ts → AllByRecursion P (take n ts)
all_taken P zero ts all = tt
all_taken P (suc n) [] all = tt
all_taken P (suc n) (t ∷ ts) all = (all.0, all_taken P n ts all.1)

all_dropped : {T : Type 0} (P : T → Type 0) (n : ℕ) (ts : List T) → AllByRecursion P ts → AllByRecursion P (drop n ts)
all_dropped P zero ts all = all
all_dropped P (suc n) [] all = tt
all_dropped P (suc n) (t ∷ ts) all = all_dropped P n ts all.1

-- the symbols of tokens of a text may stand in a text, under the names that were known and theirs
pub part_in : (bytes : List ℕ) (at n : ℕ) (before names : List (List ℕ)) →
    names ≡ names_after bytes before (tokens_between at n (lexed bytes).0) →
    AllIn names (map (symbol_of bytes names) (tokens_between at n (lexed bytes).0))
part_in bytes at n before names numbered =
    let tokens = (lexed bytes).0 in
    let part = tokens_between at n tokens in
    symbols_are_in bytes names part
    (all_taken (IsGoodToken bytes) (n - at) (drop at tokens) (all_dropped (IsGoodToken bytes) at tokens (tokens_good bytes)))
    (known_behind bytes before part names numbered)

-- a text of symbols that may stand in one
pub spaced_under : (names : List (List ℕ)) (ts : List Symbol) → AllIn names ts → IsUnder names (spaced ts)
spaced_under names ts all =
    pieces_under names (spaced ts) (content (map plain ts)) (content_in names ts all)
    (ap (λ (l : List Symbol). content (map plain l)) (spaced-symbols ts)) (spaced_apart names ts all)

-- some text spells a block that tokens of a text spell
pub block_has_text : (bytes : List ℕ) (at groups n : ℕ) (before names : List (List ℕ)) (c : Code) →
    SpellsBlockAt bytes at groups before n names c → HasBlockText names c
block_has_text bytes at groups n before names c spells =
    let ts = map (symbol_of bytes names) (tokens_between at n (lexed bytes).0) in
    let it = spaced_under names ts (part_in bytes at n before names spells.numbered) in
    let B : List Symbol → Type 0 = λ l. IsBlock 0 (map plain l) c in
    let alone : IsBlock 0 (map plain ts) c = block_fewer spells.grammar (clean_plain ts) 0 (omega arith) in
    (pieces_text names (spaced ts), record { text = it.text; grammar = subst B (sym (it.symbols ∙ spaced-symbols ts)) alone })
