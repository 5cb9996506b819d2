-- Behind the front of a text up to its first fault a token nests too deep only where it is the last.
use Rattle.sm_follow.proofs.Imports.{◌≡◌, ◌⊎◌, inl, inr, ℕ, suc, ◌+◌, ◌<◌, ◌≤◌, Option, Some, None, List, [], ◌∷◌, ◌++◌, length, map, take, append_assoc, append-nil, refl, sym, ap, ap₂, subst, ◌∙◌, arith, Symbol, names_of, symbol_of, symbols_of, Lexed, lexed, Token, LexFault, IsCutInto, end, place_of, AreTasks, IsFault, IsFirstFault, IsNestedAt, IsViable, NestsTooDeep, Stands, at_token, at_end, TextError, whole_text, tokens_are_cut, Ascends, behind-ascends, length-map-of, lexed-ascends, map-append, same_split, some_one, symbols-map, nested-viable, NestsLast, NestsNowhere}
use Rattle.std.proofs.Math.Seq.{take-append_seam}
use Rattle.sm_text.specs.declared.error.TextError.TheVariants as error
use Rattle.sm_follow.proofs.Fronts.{place_behind, front_before, IsApart, IsFront, nothing, token_head, token_tail}
use Rattle.sm_follow.proofs.FrontSymbols.{front_symbols}

-- ---- lists

symbol_head : (t u : Symbol) (ts us : List Symbol) → (t ∷ ts) ≡ u ∷ us → t ≡ u
symbol_head t u ts us e = cc

-- a place in two lists stands in the first or in the second
abbrev InFirst : List Token → List Token → Token → Type 0
InFirst before bs t = (ws : List Token) × (before ≡ bs ++ t ∷ ws)

abbrev InSecond : List Token → List Token → List Token → List Token → Token → Type 0
InSecond before us bs vs t = (ws : List Token) × (bs ≡ before ++ ws) × (us ≡ ws ++ t ∷ vs)

in_either : (bs vs before us : List Token) (t : Token) → bs ++ t ∷ vs ≡ before ++ us →
    InFirst before bs t ⊎ InSecond before us bs vs t
in_either bs vs [] us t e = inr (bs, refl, sym e)
in_either [] vs (b ∷ before) us t e =
    inl (before, ap (λ (u : Token). u ∷ before) (sym (token_head t b vs (before ++ us) e)))
in_either (c ∷ bs) vs (b ∷ before) us t e =
    by (in_either bs vs before us t (token_tail c b (bs ++ t ∷ vs) (before ++ us) e))
  where
    same : c ≡ b
    same = token_head c b (bs ++ t ∷ vs) (before ++ us) e

    by : InFirst before bs t ⊎ InSecond before us bs vs t → InFirst (b ∷ before) (c ∷ bs) t ⊎ InSecond (b ∷ before) us (c ∷ bs) vs t
    by (inl h) = inl (h.0, ap₂ (λ (u : Token) (us : List Token). u ∷ us) (sym same) h.1)
    by (inr h) = inr (h.0, ap₂ (λ (u : Token) (us : List Token). u ∷ us) same h.1, h.2)

no_place : (ws vs : List Token) (t : Token) → [] ≡ ws ++ t ∷ vs → ⊥
no_place [] vs t e = omega (arith, ap length e)
no_place (w ∷ ws) vs t e = omega (arith, ap length e)

-- the only token of a list
only : (ws vs : List Token) (t u : Token) → (u ∷ []) ≡ ws ++ t ∷ vs → (ws ≡ []) × (t ≡ u) × (vs ≡ [])
only [] vs t u e = (refl, sym (token_head u t [] vs e), sym (token_tail u t [] vs e))
only (w ∷ ws) vs t u e = absurd (no_place ws vs t (token_tail u w [] (ws ++ t ∷ vs) e))

first_behind : (from last : ℕ) (after : List Token) (f : Option LexFault) → Ascends from after f last → from ≤ place_behind after f last
first_behind from last [] None a = a
first_behind from last [] (Some f) a = a.0
first_behind from last (t ∷ ts) f a = a.0

-- a token before others stands before them
earlier : (from last : ℕ) (bs ws after : List Token) (t : Token) (f : Option LexFault) → Ascends from ((bs ++ t ∷ ws) ++ after) f last →
    t.place < place_behind after f last
earlier from last bs ws after t f a =
    let own =
    behind-ascends from last bs (t ∷ (ws ++ after)) f
    (subst (λ (ts : List Token). Ascends from ts f last) (append_assoc bs (t ∷ ws) after) a) in
    let past = first_behind (suc t.place) last after f (behind-ascends (suc t.place) last ws after f own.1) in
    omega (arith, past)

-- ---- where a fault stands

-- the tokens of a text before a place and those behind it
pub record IsCutAt (bytes : List ℕ) (at : ℕ) : Type 0 where
  pub before : List Token
  pub after : List Token
  pub cut : (lexed bytes).0 ≡ before ++ after
  pub place : place_behind after (lexed bytes).1 (length bytes) ≡ at

pub all_before : (bytes : List ℕ) (f : Option LexFault) → (lexed bytes).1 ≡ f → IsCutAt bytes (place_behind [] f (length bytes))
all_before bytes f is = record {
  before = (lexed bytes).0;
  after = [];
  cut = sym (append-nil (lexed bytes).0);
  place = ap (λ (o : Option LexFault). place_behind [] o (length bytes)) is;
}

pub stands_cut : (bytes : List ℕ) (place : ℕ) (before : List Symbol) (next : Option Symbol) → Stands (whole_text bytes) place before next →
    IsCutAt bytes place
stands_cut bytes place before next (at_token us vs u cut) = record { before = us; after = u ∷ vs; cut = cut; place = refl }
stands_cut bytes place before next (at_end none) = all_before bytes None none

pub fault_cut : (bytes : List ℕ) (e : TextError) → IsFault AreTasks (whole_text bytes) e → IsCutAt bytes (place_of e)
fault_cut bytes (error.BadByte place) is = all_before bytes (Some _) is
fault_cut bytes (error.WideNumber place) is = all_before bytes (Some _) is
fault_cut bytes (error.BadToken place) is = all_before bytes (Some _) is
fault_cut bytes (error.Expected place) x = stands_cut bytes place x.before x.next x.stands
fault_cut bytes (error.Nested place) x = stands_cut bytes place x.before (Some x.next) x.stands
fault_cut bytes error.Memory x = absurd x

none_is_some : (u : Symbol) → (let o : Option Symbol = None in o) ≡ Some u → ⊥
none_is_some u e = cc

-- ---- a text up to its first fault

module _ (bytes : List ℕ) (e : TextError) (first : IsFirstFault AreTasks (whole_text bytes) e) where
  abbrev pub cut : IsCutAt bytes (place_of e)
  cut = fault_cut bytes e first.stands

  abbrev pub before : List Token
  before = cut.before

  abbrev pub after : List Token
  after = cut.after

  abbrev pub is_front : IsFront 0 bytes before (place_of e)
  is_front = subst (IsFront 0 bytes before) cut.place (front_before bytes before after cut.cut)

  abbrev pub front : List ℕ
  front = is_front.front

  pub front_taken : take (place_of e) bytes ≡ front
  front_taken =
      let size : length front ≡ place_of e = omega (arith, is_front.size) in
      ap (λ (n : ℕ). take n bytes) (sym size) ∙ ap (take (length front)) is_front.cut ∙ take-append_seam front is_front.behind

  -- the tokens of a longer text
  pub lexed_longer : (c : List ℕ) (us : List Token) (g : Option LexFault) → IsApart c → IsCutInto (0 + length front) c us g →
      (before ++ us, g) ≡ lexed (front ++ c)
  lexed_longer c us g apart k = (tokens_are_cut (front ++ c) (before ++ us) g).1 (is_front.goes_on c us g apart k)

  alone : (lexed front).0 ≡ before
  alone =
      ap (λ (l : List ℕ). (lexed l).0) (sym (append-nil front))
      ∙ sym (ap (λ (l : Lexed). l.0) (lexed_longer [] [] None nothing (end (0 + length front))))
      ∙ append-nil before

  symbols_of_text : map (symbol_of bytes (names_of bytes)) before ≡ symbols_of front
  symbols_of_text =
      subst (λ (l : List ℕ). map (symbol_of l (names_of l)) before ≡ symbols_of front) (sym is_front.cut)
      (front_symbols front is_front.behind before after alone
      (subst (λ (l : List ℕ). (lexed l).0 ≡ before ++ after) is_front.cut cut.cut))

  -- none of the text nests too deep before the fault
  none_nests : (bs ws : List Token) (t : Token) → before ≡ bs ++ t ∷ ws →
      NestsTooDeep AreTasks (map (symbol_of bytes (names_of bytes)) bs) (symbol_of bytes (names_of bytes) t) → ⊥
  none_nests bs ws t same nests =
      let here = cut.cut ∙ ap (λ (ts : List Token). ts ++ after) same in
      let late =
      first.least (error.Nested t.place) (record {
        before = map (symbol_of bytes (names_of bytes)) bs;
        next = symbol_of bytes (names_of bytes) t;
        stands = at_token bs (ws ++ after) t (here ∙ append_assoc bs (t ∷ ws) after);
        nests = nests;
      }) in
      let early =
      earlier 0 (length bytes) bs ws after t (lexed bytes).1
      (subst (λ (ts : List Token). Ascends 0 ts (lexed bytes).1 (length bytes)) here (lexed-ascends bytes)) in
      omega (arith, late, early, cut.place)

  -- what nests too deep in a longer text
  module _ (c : List ℕ) (us : List Token) (g : Option LexFault) (longer : (before ++ us, g) ≡ lexed (front ++ c)) where
    abbrev pub text : List ℕ
    text = front ++ c

    abbrev pub symbol : Token → Symbol
    symbol = symbol_of text (names_of text)

    tokens : (lexed text).0 ≡ before ++ us
    tokens = sym (ap (λ (l : Lexed). l.0) longer)

    pub record IsBehind : Type 0 where
      pub earlier_ones : List Token
      pub own : Token
      pub later_ones : List Token
      pub among : us ≡ earlier_ones ++ own ∷ later_ones
      pub nests : NestsTooDeep AreTasks (map symbol (before ++ earlier_ones)) (symbol own)

    -- not a token of the front
    not_before : (bs ws : List Token) (t : Token) → before ≡ bs ++ t ∷ ws → NestsTooDeep AreTasks (map symbol bs) (symbol t) → ⊥
    not_before bs ws t same nests =
        let f = symbol_of bytes (names_of bytes) in
        let alike : map symbol before ≡ map f before = front_symbols front c before us alone tokens ∙ sym symbols_of_text in
        let line : map symbol bs ++ symbol t ∷ map symbol ws ≡ map f bs ++ f t ∷ map f ws =
        sym (map-append symbol bs (t ∷ ws)) ∙ ap (map symbol) (sym same) ∙ alike ∙ ap (map f) same ∙ map-append f bs (t ∷ ws) in
        let parts =
        same_split (map symbol bs) (symbol t ∷ map symbol ws) (map f bs) (f t ∷ map f ws) line
        (length-map-of symbol bs ∙ sym (length-map-of f bs)) in
        none_nests bs ws t same
        (subst (λ (u : Symbol). NestsTooDeep AreTasks (map f bs) u) (symbol_head (symbol t) (f t) (map symbol ws) (map f ws) parts.1)
        (subst (λ (l : List Symbol). NestsTooDeep AreTasks l (symbol t)) parts.0 nests))

    by_stands : (place : ℕ) (b : List Symbol) (o : Option Symbol) → Stands (whole_text text) place b o → (v : Symbol) → o ≡ Some v →
        NestsTooDeep AreTasks b v → IsBehind
    by_stands place b o (at_token bs vs t here) v same nests =
        by (in_either bs vs before us t (sym here ∙ tokens))
      where
        own : NestsTooDeep AreTasks (map symbol bs) (symbol t)
        own = subst (λ (u : Symbol). NestsTooDeep AreTasks (map symbol bs) u) (sym (some_one (symbol t) v same)) nests

        by : InFirst before bs t ⊎ InSecond before us bs vs t → IsBehind
        by (inl h) = absurd (not_before bs h.0 t h.1 own)
        by (inr h) = record {
          earlier_ones = h.0;
          own = t;
          later_ones = vs;
          among = h.2;
          nests = subst (λ (ts : List Token). NestsTooDeep AreTasks (map symbol ts) (symbol t)) h.1 own;
        }
    by_stands place b o (at_end none) v same nests = absurd (none_is_some v same)

    pub nested_behind : (place : ℕ) → IsNestedAt AreTasks (whole_text text) place → IsBehind
    nested_behind place n = by_stands place n.before (Some n.next) n.stands n.next refl n.nests

  -- where one token stands behind the front, that one
  pub last_nests : (c : List ℕ) (t : Token) → (before ++ t ∷ [], None) ≡ lexed (front ++ c) → NestsLast (front ++ c)
  last_nests c t longer = record {
    tokens = sym (ap (λ (l : Lexed). l.1) longer);
    last = λ place n. viable (nested_behind c (t ∷ []) None longer place n);
  }
    where
      f : Token → Symbol
      f = symbol_of (front ++ c) (names_of (front ++ c))

      viable : IsBehind c (t ∷ []) None longer → IsViable AreTasks (symbols_of (front ++ c))
      viable b =
          let one = only b.earlier_ones b.later_ones b.own t b.among in
          let ts : before ++ b.earlier_ones ≡ before = ap (λ (l : List Token). before ++ l) one.0 ∙ append-nil before in
          let all : map f (before ++ b.earlier_ones) ++ f b.own ∷ [] ≡ symbols_of (front ++ c) =
          ap₂ (λ (l : List Token) (u : Token). map f l ++ f u ∷ []) ts one.1 ∙ sym (map-append f before (t ∷ []))
          ∙ ap (map f) (ap (λ (l : Lexed). l.0) longer) ∙ sym (symbols-map (front ++ c)) in
          subst (IsViable AreTasks) all (nested-viable (map f (before ++ b.earlier_ones)) (f b.own) b.nests)

  -- where none does, none
  pub nowhere : NestsNowhere front
  nowhere place n =
      let longer = lexed_longer [] [] None nothing (end (0 + length front)) in
      let b =
      nested_behind [] [] None longer place
      (subst (λ (l : List ℕ). IsNestedAt AreTasks (whole_text l) place) (sym (append-nil front)) n) in
      no_place b.earlier_ones b.later_ones b.own b.among
