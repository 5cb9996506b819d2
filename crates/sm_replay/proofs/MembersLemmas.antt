-- Members of JSON, and what they give an array.
use Rattle.sm_replay.proofs.Imports.{◌≡◌, ◌⊎◌, ◌<◌, ◌++◌, ℕ, zero, suc, ℤ, Bool, true, false, cond, not, ◌||◌, ◌+◌, if◌then◌else◌, nat_lt, Option, Some, None, option_map, option_and_then, List, [], ◌∷◌, length, String, Global, string_bytes, Less, refl, sym, ap, subst, ◌∙◌, inl, inr, ⊎_elim, true≢false, arith, Decides-ltb, Contains-append_left, Contains-append_right, Contains-append_cases, slice_get_within, bytes_eq-Decides, slice_cmp, signed_decimal, AllByRecursion, Contains, position, position_or_len, IsPermutation, keys_of, match_ordering, bytes_eq, string_cmp, Data, object, Members, no_members, get_member, view, members_view, Entry, member_here, member_later, fits, Sorts, Sort, is_among, Lists, Texts, declared_name, number_or_zero, elements, cell_given, number_of_text}
use Rattle.std.proofs.lemmas.List.Sorted.{IsPermutation-sym, Contains-permutation}
use Rattle.std.specs.List.{slice_get}
use Rattle.std.specs.List.Sorted.{IsStrictlySortedBy}
use Rattle.std.specs.Ordering.{nat_cmp}
use Rattle.serde_json.specs.Data.{number}
use Rattle.sm_replay.proofs.NumberUnique.{spells_itself, spelled_back}

-- a text that isn't among names has no place
no_place : (names : Texts) (key : List ℕ) → is_among names key ≡ false → position_or_len (bytes_eq key) names ≡ length names
no_place [] key h = refl
no_place (x ∷ xs) key h = by (bytes_eq key x) refl (no_place xs key)
  where
    by : (b : Bool) → bytes_eq key x ≡ b → (is_among xs key ≡ false → position_or_len (bytes_eq key) xs ≡ length xs)
        → position_or_len (bytes_eq key) (x ∷ xs) ≡ length (x ∷ xs)
    by true e rest = absurd (true≢false (sym (ap (λ (b : Bool). b || is_among xs key) e) ∙ h))
    by false e rest =
        ap (λ (c : Bool). cond (not c) (1 + position_or_len (bytes_eq key) xs) 0) e ∙
        omega (arith, rest (sym (ap (λ (b : Bool). b || is_among xs key) e) ∙ h))

pub absent_place : (names : Texts) (key : List ℕ) → is_among names key ≡ false → position (bytes_eq key) names ≡ None
absent_place names key h =
    by (nat_lt (position_or_len (bytes_eq key) names) (length names)) (Decides-ltb (position_or_len (bytes_eq key) names) (length names)).0
  where
    by : (b : Bool) → (b ≡ true → position_or_len (bytes_eq key) names < length names)
        → cond b (Some (position_or_len (bytes_eq key) names)) None ≡ None
    by true lt = absurd (omega (arith, lt refl, no_place names key h))
    by false lt = refl

-- a text that stands at its place
pub place_of : (names : Texts) (key : List ℕ) (n : ℕ) → n ≡ position_or_len (bytes_eq key) names → slice_get names n ≡ Some key
    → position (bytes_eq key) names ≡ Some n
place_of names key n is stored =
    let lt : position_or_len (bytes_eq key) names < length names = omega (arith, is, slice_get_within names n key stored) in
    ap (λ (b : Bool). cond b (Some (position_or_len (bytes_eq key) names)) None)
    ((Decides-ltb (position_or_len (bytes_eq key) names) (length names)).1 lt) ∙ ap Some (sym is)

-- a name by its place
abbrev pub by_place : Sorts → Option ℕ → Option (ℕ × Sort)
by_place sorts place = option_and_then (λ (x : ℕ). option_and_then (λ (sort : Sort). Some (x, sort)) (sorts x)) place

pub unnamed : (names : Texts) (sorts : Sorts) (key : List ℕ) → is_among names key ≡ false → None ≡ declared_name names sorts key
unnamed names sorts key h = sym (ap (by_place sorts) (absent_place names key h))

pub named : (names : Texts) (sorts : Sorts) (key : List ℕ) (n : ℕ) (sort : Option Sort) → n ≡ position_or_len (bytes_eq key) names
    → slice_get names n ≡ Some key → sort ≡ sorts n
    → option_and_then (λ (s : Sort). Some (n, s)) sort ≡ declared_name names sorts key
named names sorts key n sort is stored declared =
    ap (λ (o : Option Sort). option_and_then (λ (s : Sort). Some (n, s)) o) declared ∙
    sym (ap (by_place sorts) (place_of names key n is stored))

-- a choice of nothing
if_none : {T : Type 0} (b : Bool) (o : Option T) → o ≡ None → (if b then o else None) ≡ None
if_none true o is = is
if_none false o is = refl

-- a key above which all others stand is not among them
above_all : (key : List ℕ) (rest : List Entry)
    → AllByRecursion (λ (y : String Global). slice_cmp nat_cmp key (string_bytes y) ≡ Less) (keys_of rest)
    → get_member key (members_view rest) ≡ None
above_all key [] h = refl
above_all key (e ∷ rest) h =
    ap (λ o. match_ordering o (get_member key (members_view rest)) (Some (view e.1)) (get_member key (members_view rest))) h.0 ∙
    above_all key rest h.1

-- what a member is worth
abbrev worth : Option Data → Option ℤ
worth found = option_map (λ (v : Data). number_or_zero (Some v)) found

-- outside 128 bits there is no element, and inside it is that of the member
unfit : (ms : Members) (i : ℤ) → fits i ≡ false → elements (object ms) i ≡ None
unfit ms i h = ap (λ (b : Bool). if b then worth (get_member (signed_decimal i) ms) else None) h

fit : (ms : Members) (i : ℤ) → fits i ≡ true → elements (object ms) i ≡ worth (get_member (signed_decimal i) ms)
fit ms i h = ap (λ (b : Bool). if b then worth (get_member (signed_decimal i) ms) else None) h

-- what a list of one has
only : (p q : ℤ × ℤ) → Contains (p ∷ []) q → p ≡ q
only p q (zero, below, is) = is
only p q (suc k, below, is) = absurd (omega (arith, below))

module _ (e : Entry) (rest : List Entry) (i z : ℤ) where
  -- what the first cell gives
  abbrev pub First : Type 0
  First = Contains (cell_given (number_of_text (string_bytes e.0)) (view e.1)) (i, z)

  -- an element is of the first cell or of the rest
  pub first_or_rest : elements (object (members_view (e ∷ rest))) i ≡ Some z → First ⊎ (elements (object (members_view rest)) i ≡ Some z)
  first_or_rest is = by (fits i) refl (bytes_eq (signed_decimal i) (string_bytes e.0)) refl
    where
      by : (f : Bool) → fits i ≡ f → (b : Bool) → bytes_eq (signed_decimal i) (string_bytes e.0) ≡ b
          → First ⊎ (elements (object (members_view rest)) i ≡ Some z)
      by false room b same = absurd (let clash : None ≡ Some z = sym (unfit (members_view (e ∷ rest)) i room) ∙ is in cc)
      by true room true same =
          let text : signed_decimal i ≡ string_bytes e.0 = (bytes_eq-Decides (signed_decimal i) (string_bytes e.0)).0 same in
          let read : number_of_text (string_bytes e.0) ≡ Some i = ap number_of_text (sym text) ∙ spells_itself i room in
          let both : Some (number_or_zero (Some (view e.1))) ≡ Some z =
          sym (fit (members_view (e ∷ rest)) i room ∙ ap worth (member_here (signed_decimal i) e rest text)) ∙ is in
          let number : number_or_zero (Some (view e.1)) ≡ z = cc in
          inl (subst (λ (o : Option ℤ). Contains (cell_given o (view e.1)) (i, z)) (sym read)
          (0, omega arith, ap (λ (w : ℤ). (i, w)) number))
      by true room false same =
          inr (fit (members_view rest) i room
          ∙ ap worth (sym (member_later (signed_decimal i) e rest
          (λ (t : signed_decimal i ≡ string_bytes e.0).
          true≢false (sym ((bytes_eq-Decides (signed_decimal i) (string_bytes e.0)).1 t) ∙ same))))
          ∙ sym (fit (members_view (e ∷ rest)) i room) ∙ is)

  -- what the first cell gives is an element
  pub first_is_element : First → elements (object (members_view (e ∷ rest))) i ≡ Some z
  first_is_element = by (number_of_text (string_bytes e.0)) refl
    where
      by : (o : Option ℤ) → number_of_text (string_bytes e.0) ≡ o → Contains (cell_given o (view e.1)) (i, z)
          → elements (object (members_view (e ∷ rest))) i ≡ Some z
      by None read found = absurd (omega (arith, found.1))
      by (Some j) read found =
          let pair : (j, number_or_zero (Some (view e.1))) ≡ (i, z) = only (j, number_or_zero (Some (view e.1))) (i, z) found in
          let index : j ≡ i = ap (λ (p : ℤ × ℤ). p.0) pair in
          let spelled = spelled_back (string_bytes e.0) j read in
          fit (members_view (e ∷ rest)) i (ap fits (sym index) ∙ spelled.0)
          ∙ ap worth (member_here (signed_decimal i) e rest (ap signed_decimal (sym index) ∙ spelled.1))
          ∙ ap (λ (p : ℤ × ℤ). Some p.1) pair

  -- an element of the rest is one too, since its key is another
  pub rest_is_element : IsStrictlySortedBy string_cmp (keys_of (e ∷ rest)) → elements (object (members_view rest)) i ≡ Some z
      → elements (object (members_view (e ∷ rest))) i ≡ Some z
  unfolding IsStrictlySortedBy
  rest_is_element sorted is = by (fits i) refl (bytes_eq (signed_decimal i) (string_bytes e.0)) refl
    where
      by : (f : Bool) → fits i ≡ f → (b : Bool) → bytes_eq (signed_decimal i) (string_bytes e.0) ≡ b
          → elements (object (members_view (e ∷ rest))) i ≡ Some z
      by false room b same = absurd (let clash : None ≡ Some z = sym (unfit (members_view rest) i room) ∙ is in cc)
      by true room true same =
          let text : signed_decimal i ≡ string_bytes e.0 = (bytes_eq-Decides (signed_decimal i) (string_bytes e.0)).0 same in
          let alone : get_member (signed_decimal i) (members_view rest) ≡ None =
          ap (λ (k : List ℕ). get_member k (members_view rest)) text ∙ above_all (string_bytes e.0) rest sorted.0 in
          absurd (let clash : None ≡ Some z = sym (fit (members_view rest) i room ∙ ap worth alone) ∙ is in cc)
      by true room false same =
          fit (members_view (e ∷ rest)) i room
          ∙ ap worth (member_later (signed_decimal i) e rest
          (λ (t : signed_decimal i ≡ string_bytes e.0).
          true≢false (sym ((bytes_eq-Decides (signed_decimal i) (string_bytes e.0)).1 t) ∙ same)))
          ∙ sym (fit (members_view rest) i room) ∙ is

-- the keys of the rest rise too
pub rest_sorted : (e : Entry) (rest : List Entry) → IsStrictlySortedBy string_cmp (keys_of (e ∷ rest))
    → IsStrictlySortedBy string_cmp (keys_of rest)
unfolding IsStrictlySortedBy
rest_sorted e rest sorted = sorted.1

-- a list has what the cells before give, and what those that are left give isn't lost
pub record ListsBefore (all left : List Entry) (list : List (ℤ × ℤ)) : Type 0 where
  pub sound : (i z : ℤ) → Contains list (i, z) → elements (object (members_view all)) i ≡ Some z
  pub later : (i z : ℤ) → elements (object (members_view left)) i ≡ Some z → elements (object (members_view all)) i ≡ Some z
  pub whole : (i z : ℤ) → elements (object (members_view all)) i ≡ Some z
      → Contains list (i, z) ⊎ (elements (object (members_view left)) i ≡ Some z)

-- the next cell
pub list_turn : (all : List Entry) (e : Entry) (rest : List Entry) (list : List (ℤ × ℤ))
    → IsStrictlySortedBy string_cmp (keys_of (e ∷ rest))
    → ListsBefore all (e ∷ rest) list → ListsBefore all rest (list ++ cell_given (number_of_text (string_bytes e.0)) (view e.1))
list_turn all e rest list sorted before = record {
  sound = λ (i z : ℤ) (found : Contains (list ++ cell_given (number_of_text (string_bytes e.0)) (view e.1)) (i, z)).
      ⊎_elim (before.sound i z) (λ (here : First e rest i z). before.later i z (first_is_element e rest i z here))
      (Contains-append_cases list (cell_given (number_of_text (string_bytes e.0)) (view e.1)) (i, z) found);
  later = λ (i z : ℤ) (is : elements (object (members_view rest)) i ≡ Some z). before.later i z (rest_is_element e rest i z sorted is);
  whole = λ (i z : ℤ) (is : elements (object (members_view all)) i ≡ Some z).
      ⊎_elim (λ (there : Contains list (i, z)).
      inl (Contains-append_left list (cell_given (number_of_text (string_bytes e.0)) (view e.1)) (i, z) there))
      (λ (left : elements (object (members_view (e ∷ rest))) i ≡ Some z).
      ⊎_elim (λ (here : First e rest i z).
      inl (Contains-append_right list (cell_given (number_of_text (string_bytes e.0)) (view e.1)) (i, z) here))
      (λ (later : elements (object (members_view rest)) i ≡ Some z). inr later)
      (first_or_rest e rest i z left))
      (before.whole i z is);
}

-- no members give no element
no_member_left : (i z : ℤ) → elements (object no_members) i ≡ Some z → ⊥
no_member_left i z is = let clash : None ≡ Some z = sym (if_none (fits i) None refl) ∙ is in cc

-- at the end the list has what all the cells give
pub all_listed : (all : List Entry) (list : List (ℤ × ℤ)) → ListsBefore all [] list → Lists (elements (object (members_view all))) list
all_listed all list before i z = (
  λ (is : elements (object (members_view all)) i ≡ Some z).
      ⊎_elim (λ (there : Contains list (i, z)). there)
      (λ (left : elements (object no_members) i ≡ Some z). absurd (no_member_left i z left)) (before.whole i z is),
  before.sound i z,
)

-- in another order a list has the same
pub lists_shuffled : (given : ℤ → Option ℤ) (old new : List (ℤ × ℤ)) → IsPermutation old new → Lists given old → Lists given new
lists_shuffled given old new moved lists i z = (
  λ (is : given i ≡ Some z). Contains-permutation old new (i, z) moved ((lists i z).0 is),
  λ (found : Contains new (i, z)). (lists i z).1 (Contains-permutation new old (i, z) (IsPermutation-sym old new moved) found),
)
