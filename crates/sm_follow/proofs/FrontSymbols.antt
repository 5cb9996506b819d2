-- The tokens of a front have the symbols that they have in it alone, whatever stands behind it.
use Rattle.sm_follow.proofs.Imports.{◌≡◌, ℕ, ◌+◌, ◌≤◌, Bool, true, None, Option, List, [], ◌∷◌, ◌++◌, map, length, take, drop, refl, sym, ap, ap₂, ◌∙◌, subst, arith, take-append-le, drop-append-le, length-drop, AllByRecursion, Symbol, text_of, is_among, is_name, names_after, symbol_by, Lexed, lexed, Token, LexFault}
use Rattle.sm_syntax.specs.text.Symbols.{names_among, names_of, symbol_of, symbols_among, symbols_of}
use Rattle.sm_text.specs.parsing.Fragments.{IsKnown}
use Rattle.sm_text.specs.resolving.TokenTexts.{IsTokenOf}
use Rattle.sm_text.proofs.Cut.Lexing.{IsTokenOf-lexed}
use Rattle.sm_text.proofs.Numbering.Symbols.{names_with, names_after-append, grown-names_after, symbol_by-append}
use Rattle.sm_text.proofs.RoundTrip.Symbols.{known_behind}

-- a token's bytes
text_kept : (front c : List ℕ) (t : Token) → t.place + t.size ≤ length front → text_of (front ++ c) t ≡ text_of front t
text_kept front c t within =
    let rest = length-drop t.place front in
    ap (take t.size) (drop-append-le t.place front c (omega (arith, within)))
    ∙ take-append-le t.size (drop t.place front) c (omega (arith, within, rest))

names_kept : (front c : List ℕ) (names : List (List ℕ)) (ts : List Token) → AllByRecursion (IsTokenOf front) ts →
    names_after (front ++ c) names ts ≡ names_after front names ts
names_kept front c names [] all = refl
names_kept front c names (t ∷ ts) all =
    ap (λ (text : List ℕ). names_after (front ++ c) (names_with names t.kind text) ts) (text_kept front c t all.0.within)
    ∙ names_kept front c (names_with names t.kind (text_of front t)) ts all.1

symbols_kept : (front c : List ℕ) (names : List (List ℕ)) (ts : List Token) → AllByRecursion (IsTokenOf front) ts →
    map (symbol_of (front ++ c) names) ts ≡ map (symbol_of front names) ts
unfolding symbol_of
symbols_kept front c names [] all = refl
symbols_kept front c names (t ∷ ts) all =
    ap₂ (λ (s : Symbol) (ss : List Symbol). s ∷ ss) (ap (symbol_by t.kind names) (text_kept front c t all.0.within))
    (symbols_kept front c names ts all.1)

-- more names behind theirs
symbols_grown : (front : List ℕ) (names more : List (List ℕ)) (ts : List Token) → AllByRecursion (IsKnown front names) ts →
    map (symbol_of front (names ++ more)) ts ≡ map (symbol_of front names) ts
unfolding symbol_of
symbols_grown front names more [] all = refl
symbols_grown front names more (t ∷ ts) all =
    ap₂ (λ (s : Symbol) (ss : List Symbol). s ∷ ss) (symbol_by-append t.kind names more (text_of front t) all.0)
    (symbols_grown front names more ts all.1)

symbols_are : (front : List ℕ) (ts : List Token) → (lexed front).0 ≡ ts → symbols_of front ≡ map (symbol_of front (names_after front [] ts)) ts
unfolding symbols_of symbols_among names_among
symbols_are front ts e = ap (λ (us : List Token). map (symbol_of front (names_after front [] us)) us) e

names_are : (bytes : List ℕ) (ts : List Token) → (lexed bytes).0 ≡ ts → names_of bytes ≡ names_after bytes [] ts
unfolding names_of names_among
names_are bytes ts e = ap (names_after bytes []) e

pub front_symbols : (front c : List ℕ) (before us : List Token) → (lexed front).0 ≡ before → (lexed (front ++ c)).0 ≡ before ++ us →
    map (symbol_of (front ++ c) (names_of (front ++ c))) before ≡ symbols_of front
front_symbols front c before us alone all =
    let bytes = front ++ c in
    let within = subst (AllByRecursion (IsTokenOf front)) alone (IsTokenOf-lexed front) in
    let own = names_after front [] before in
    let more = grown-names_after bytes (names_after bytes [] before) us in
    let names : names_of bytes ≡ own ++ more.0 =
    names_are bytes (before ++ us) all ∙ names_after-append bytes [] before us ∙ more.1
    ∙ ap (λ (l : List (List ℕ)). l ++ more.0) (names_kept front c [] before within) in
    ap (λ (l : List (List ℕ)). map (symbol_of bytes l) before) names
    ∙ symbols_kept front c (own ++ more.0) before within
    ∙ symbols_grown front own more.0 before (known_behind front [] before own refl)
    ∙ sym (symbols_are front before alone)
