-- The tokens and the fault of a text stand in the order of their places, and what two splits of them have in common.
use Rattle.sm_text.proofs.Imports.{◌≡◌, ◌⊎◌, inl, inr, ℕ, suc, zero, ◌+◌, ◌-◌, ◌<◌, ◌≤◌, refl, sym, ap, ◌∙◌, subst, arith, Option, Some, None, List, [], ◌∷◌, ◌++◌, length, map, take, drop, get_or, drop-cons, Symbol, Front, Lexed, front_of, by_front, lexed_after, LexFault, first, rest, whole_text, all_symbols, IsPlaceWith}
use Rattle.std.proofs.lemmas.List.{take-append-drop, length-drop}
use Rattle.sm_syntax.specs.text.Symbols.{symbols_among, symbols_of, names_of}
use Rattle.sm_syntax.specs.text.Tokens.{Gap, Piece, Fault, lexed_from, lexed}
use Rattle.sm_syntax.specs.declared.token.Token.{Token}

-- places ascend, and all stand before the end
abbrev pub Ascends : ℕ → List Token → Option LexFault → ℕ → Type 0
Ascends from [] None last = from ≤ last
Ascends from [] (Some f) last = (from ≤ f.place) × (f.place < last)
Ascends from (t ∷ ts) f last = (from ≤ t.place) × Ascends (suc t.place) ts f last

lower : (a b last : ℕ) (ts : List Token) (f : Option LexFault) → a ≤ b → Ascends b ts f last → Ascends a ts f last
lower a b last [] None h x = omega (arith, h, x)
lower a b last [] (Some f) h x = (omega (arith, h, x.0), x.1)
lower a b last (t ∷ ts) f h x = (omega (arith, h, x.0), x.1)

by_front-ascends : (f : Front) (place last : ℕ) (more : ℕ → Lexed) → place < last →
    ((left : ℕ) → Ascends (place + 1) (more left).0 (more left).1 last) →
    Ascends place (by_front f place more).0 (by_front f place more).1 last
by_front-ascends (Gap size) place last more h x =
    lower place (place + 1) last (more (size - 1)).0 (more (size - 1)).1 (omega arith) (x (size - 1))
by_front-ascends (Piece kind size) place last more h x =
    (omega arith, lower (suc place) (place + 1) last (more (size - 1)).0 (more (size - 1)).1 (omega arith) (x (size - 1)))
by_front-ascends (Fault kind) place last more h x = (omega arith, h)

-- the tokens and the fault of a text stand in the order of their places
ascends : (left place last : ℕ) (bytes : List ℕ) → last ≡ place + length bytes →
    Ascends place (lexed_after left place bytes).0 (lexed_after left place bytes).1 last
ascends left place last [] e = omega (arith, e)
ascends (suc left) place last (b ∷ bytes) e =
    lower place (place + 1) last (lexed_after left (place + 1) bytes).0 (lexed_after left (place + 1) bytes).1 (omega arith)
    (ascends left (place + 1) last bytes (omega (arith, e)))
ascends zero place last (b ∷ bytes) e =
    by_front-ascends (front_of b (b ∷ bytes)) place last (λ left. lexed_after left (place + 1) bytes) (omega (arith, e))
    (λ left. ascends left (place + 1) last bytes (omega (arith, e)))

-- those of a whole text
pub lexed-ascends : (bytes : List ℕ) → Ascends 0 (lexed bytes).0 (lexed bytes).1 (length bytes)
unfolding lexed lexed_from
lexed-ascends bytes = ascends 0 0 (length bytes) bytes (omega arith)

-- those from a number on
drop-ascends : (n from last : ℕ) (ts : List Token) (f : Option LexFault) → Ascends from ts f last → Ascends from (drop n ts) f last
drop-ascends zero from last ts f x = x
drop-ascends (suc n) from last [] f x = x
drop-ascends (suc n) from last (t ∷ ts) f x =
    lower from (suc t.place) last (drop n ts) f (omega (arith, x.0)) (drop-ascends n (suc t.place) last ts f x.1)

-- the tokens of a text from a number on stand in the order of their places
pub from-ascends : (bytes : List ℕ) (at : ℕ) → Ascends 0 (drop at (lexed bytes).0) (lexed bytes).1 (length bytes)
from-ascends bytes at = drop-ascends at 0 (length bytes) (lexed bytes).0 (lexed bytes).1 (lexed-ascends bytes)

pub behind-ascends : (from last : ℕ) (before ts : List Token) (f : Option LexFault) → Ascends from (before ++ ts) f last →
    Ascends from ts f last
behind-ascends from last [] ts f x = x
behind-ascends from last (b ∷ before) ts f x =
    lower from (suc b.place) last ts f (omega (arith, x.0)) (behind-ascends (suc b.place) last before ts f x.1)

pub before_end : (from last : ℕ) (ts : List Token) (f : Option LexFault) → Ascends from ts f last → from ≤ last
before_end from last [] None x = x
before_end from last [] (Some f) x = omega (arith, x.0, x.1)
before_end from last (t ∷ ts) f x = let h = before_end (suc t.place) last ts f x.1 in omega (arith, x.0, h)

pub before_fault : (from last : ℕ) (ts : List Token) (f : LexFault) → Ascends from ts (Some f) last → from ≤ f.place
before_fault from last [] f x = x.0
before_fault from last (t ∷ ts) f x = let h = before_fault (suc t.place) last ts f x.1 in omega (arith, x.0, h)

head_same : (t u : Token) (ts us : List Token) → (t ∷ ts) ≡ u ∷ us → t ≡ u
head_same t u ts us e = cc

tail_same : (t u : Token) (ts us : List Token) → (t ∷ ts) ≡ u ∷ us → ts ≡ us
tail_same t u ts us e = cc

-- two tokens of a text: the second stands before the first, after it, or is it
unfoldable pub Order : List Token → List Token → Token → Token → Type 0
Order xs us t u = (length us < length xs) ⊎ ((t.place < u.place) ⊎ ((xs ≡ us) × (t ≡ u)))

later : (x y : Token) (xs us : List Token) (t u : Token) → x ≡ y → Order xs us t u → Order (x ∷ xs) (y ∷ us) t u
unfolding Order
later x y xs us t u e (inl h) = inl (omega (arith, h))
later x y xs us t u e (inr (inl h)) = inr (inl h)
later x y xs us t u e (inr (inr same)) = inr (inr (ap (λ (l : List Token). x ∷ l) same.0 ∙ ap (λ (v : Token). v ∷ us) e, same.1))

pub compare : (from last : ℕ) (f : Option LexFault) (xs ys us vs : List Token) (t u : Token) → xs ++ t ∷ ys ≡ us ++ u ∷ vs →
    Ascends from (xs ++ t ∷ ys) f last → Order xs us t u
unfolding Order
compare from last f [] ys [] vs t u e a = inr (inr (refl, head_same t u ys vs e))
compare from last f [] ys (v ∷ us) vs t u e a =
    let F : List Token → Type 0 = λ l. Ascends (suc t.place) l f last in
    let b = behind-ascends (suc t.place) last us (u ∷ vs) f (subst F (tail_same t v ys (us ++ u ∷ vs) e) a.1) in
    inr (inl (omega (arith, b.0)))
compare from last f (x ∷ xs) ys [] vs t u e a = inl (omega arith)
compare from last f (x ∷ xs) ys (v ∷ us) vs t u e a =
    later x v xs us t u (head_same x v (xs ++ t ∷ ys) (us ++ u ∷ vs) e)
    (compare (suc x.place) last f xs ys us vs t u (tail_same x v (xs ++ t ∷ ys) (us ++ u ∷ vs) e) a.1)

-- the symbols of a whole text
pub symbols-map : (bytes : List ℕ) → symbols_of bytes ≡ all_symbols (whole_text bytes)
unfolding symbols_of symbols_among names_of
symbols-map bytes = refl

pub map-append : (f : Token → Symbol) (xs ys : List Token) → map f (xs ++ ys) ≡ map f xs ++ map f ys
map-append f [] ys = refl
map-append f (x ∷ xs) ys = ap (λ (l : List Symbol). f x ∷ l) (map-append f xs ys)

pub length-map-of : (f : Token → Symbol) (xs : List Token) → length (map f xs) ≡ length xs
length-map-of f [] = refl
length-map-of f (x ∷ xs) = rw (length-map-of f xs) refl

pub some_one : (u v : Symbol) → Some u ≡ Some v → u ≡ v
some_one u v p = cc

symbol_head : (t u : Symbol) (ts us : List Symbol) → (t ∷ ts) ≡ u ∷ us → t ≡ u
symbol_head t u ts us e = some_one t u (ap (λ (l : List Symbol). first l) e)

symbol_tail : (t u : Symbol) (ts us : List Symbol) → (t ∷ ts) ≡ u ∷ us → ts ≡ us
symbol_tail t u ts us e = ap (λ (l : List Symbol). rest l) e

-- the first of two splits of a list goes past the second
pub goes_past : (used here us vs : List Symbol) (t : Symbol) → used ++ here ≡ us ++ t ∷ vs → length us < length used →
    (others : List Symbol) × (used ≡ us ++ t ∷ others)
goes_past [] here us vs t e h = absurd (omega (arith, h))
goes_past (x ∷ used) here [] vs t e h = (used, ap (λ (v : Symbol). v ∷ used) (symbol_head x t (used ++ here) vs e))
goes_past (x ∷ used) here (u ∷ us) vs t e h =
    let one = goes_past used here us vs t (symbol_tail x u (used ++ here) (us ++ t ∷ vs) e) (omega (arith, h)) in
    (one.0, ap (λ (v : Symbol). v ∷ used) (symbol_head x u (used ++ here) (us ++ t ∷ vs) e) ∙ ap (λ (l : List Symbol). u ∷ l) one.1)

-- two splits of a list of the same size are the same
pub same_split : (used here us vs : List Symbol) → used ++ here ≡ us ++ vs → length used ≡ length us → (used ≡ us) × (here ≡ vs)
same_split [] here [] vs e h = (refl, e)
same_split [] here (u ∷ us) vs e h = absurd (omega (arith, h))
same_split (x ∷ used) here [] vs e h = absurd (omega (arith, h))
same_split (x ∷ used) here (u ∷ us) vs e h =
    let one = same_split used here us vs (symbol_tail x u (used ++ here) (us ++ vs) e) (omega (arith, h)) in
    (ap (λ (v : Symbol). v ∷ used) (symbol_head x u (used ++ here) (us ++ vs) e) ∙ ap (λ (l : List Symbol). u ∷ l) one.0, one.1)

-- the place of the token at an index from the end
pub at_index : (tokens : List Token) (left index : ℕ) (t : Token) → index < length tokens → t ≡ get_or tokens index t →
    index + left ≡ length tokens → IsPlaceWith left tokens t.place
at_index tokens left index t h e sum = record {
  before = take index tokens;
  behind = drop (suc index) tokens;
  here = t;
  cut = sym (take-append-drop index tokens)
      ∙ ap (λ (l : List Token). take index tokens ++ l) (drop-cons tokens index t h
      ∙ ap (λ (u : Token). u ∷ drop (suc index) tokens) (sym e));
  count = let size = length-drop (suc index) tokens in omega (arith, size, sum, h);
  same = refl;
}

-- the token with which so many are left is the same where tokens before it are left out
pub place_from : (at many : ℕ) (tokens : List Token) (place : ℕ) → many ≤ length (drop at tokens) → IsPlaceWith many tokens place →
    IsPlaceWith many (drop at tokens) place
place_from zero many tokens place h p = p
place_from (suc n) many [] place h p = p
place_from (suc n) many (t ∷ ts) place h p = by p.before p.cut (λ q. place_from n many ts place h q)
  where
    by : (before : List Token) → (t ∷ ts) ≡ before ++ p.here ∷ p.behind → (IsPlaceWith many ts place → IsPlaceWith many (drop n ts) place) →
        IsPlaceWith many (drop n ts) place
    by [] e more =
        let size : length ts ≡ length p.behind = ap (λ (l : List Token). length l) (tail_same t p.here ts p.behind e) in
        let few = length-drop n ts in
        absurd (omega (arith, h, few, size, p.count))
    by (b ∷ before) e more =
        more (record {
          before = before;
          behind = p.behind;
          here = p.here;
          cut = tail_same t b ts (before ++ p.here ∷ p.behind) e;
          count = p.count;
          same = p.same;
        })
