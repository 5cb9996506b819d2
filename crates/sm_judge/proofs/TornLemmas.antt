-- Pairs of terms that are torn are told by the linear forms of their numbers, and found by chains of places with one label.
use Rattle.sm_judge.proofs.Imports.{◌≡◌, ◌↔◌, ◌⊎◌, inl, inr, ⊎_elim, pos, zero, suc, ◌<◌, ◌≤◌, Bool, true, false, ◌&&◌, ◌||◌, not, Option, Some, None, IfSome, List, [], ◌∷◌, length, get_or, slice_index, ◌==◌, refl, sym, ap, subst, ◌∙◌, arith, list_any, eqb-true, eq-eqb, Decides-int_eq, slice_get-get_or, Sorts, Linear, Tree, Lit, tree_at, TermId, linear_of, is_numeric, agree_with, same_parts, IsKeptFor, same_parts_stand, Pairs, AreAllForms, TellClasses, differ, torn_by, any_torn, behind, IsLastWith, IsPartnerIf, int_eq_sym, same_tests}
use Rattle.std.proofs.Common.{ℕ, ℤ}
use Rattle.std.specs.Ordering.{int_eq}
use Rattle.std.specs.Bool.{Decides}

-- of a list none passes where none at a place does
pub none_passes : {X : Type 0} (p : X → Bool) (d : X) (xs : List X) → ((m : ℕ) → m < length xs → p (get_or xs m d) ≡ false) →
    list_any p xs ≡ false
none_passes p d [] h = refl
none_passes p d (x ∷ xs) h =
    ap (λ (b : Bool). b || list_any p xs) (h 0 (omega arith)) ∙ none_passes p d xs (λ m k. h (suc m) (omega arith))

module _ (sorts : Sorts) (t u : Tree) where
  -- what is compared of two numbers
  abbrev rest : Bool
  rest = same_parts (linear_of t) (linear_of u) && not (int_eq (linear_of t).constant (linear_of u).constant)

  -- a number, which is compared before the sort of the other is looked at
  pub sort_decides : is_numeric sorts t ≡ true → (r : Bool) → r ≡ rest → r ≡ true → is_numeric sorts u ≡ differ sorts t u
  sort_decides one r is e =
      by (is_numeric sorts u) rest (sym is ∙ e) ∙ ap (λ (b : Bool). b && (is_numeric sorts u && rest)) (sym one)
    where
      by : (n b : Bool) → b ≡ true → n ≡ (n && b)
      by true b e = sym e
      by false b e = refl

  pub forms_decide : is_numeric sorts t ≡ true → (r : Bool) → r ≡ rest → r ≡ false → r ≡ differ sorts t u
  forms_decide one r is e =
      e ∙ by (is_numeric sorts u) rest (sym is ∙ e) ∙ ap (λ (b : Bool). b && (is_numeric sorts u && rest)) (sym one)
    where
      by : (n b : Bool) → b ≡ false → false ≡ (n && b)
      by true b e = sym e
      by false b e = refl

  -- a term that is no number differs from none
  pub no_number : is_numeric sorts t ≡ false → differ sorts t u ≡ false
  no_number h = ap (λ (b : Bool). b && (is_numeric sorts u && rest)) h

-- the form of a term of a table
pub form_at : (trees : List Tree) (forms : List (Linear ℕ)) (n : ℕ) (f : Linear ℕ) → AreAllForms trees forms → n < length trees →
    f ≡ get_or forms n f → IsKeptFor trees f (linear_of (tree_at trees n))
form_at trees forms n f all inside is =
    let within : n < length forms = omega (arith, inside, all.counted) in
    all.each n f (slice_get-get_or forms n f within ∙ ap Some (sym is))

-- the constants are looked at first
module _ (trees : List Tree) (f g : Linear ℕ) (h i : Linear Tree) (first : IsKeptFor trees f h) (second : IsKeptFor trees g i) where
  -- kept forms have the constants of what they are kept for
  constants : int_eq f.constant g.constant ≡ int_eq h.constant i.constant
  constants =
      ap (λ (z : ℤ). int_eq z g.constant) first.stands.constant
      ∙ ap (λ (z : ℤ). int_eq h.constant z) second.stands.constant

  -- whether the parts are the same
  parts : (r : Bool) → (r ≡ true) ↔ (f.parts ≡ g.parts) → r ≡ same_parts h i
  parts r tells =
      let law : (same_parts h i ≡ true) ↔ (f.parts ≡ g.parts) = same_parts_stand trees f g h i first second in
      same_tests r (same_parts h i) (λ (e : r ≡ true). law.1 (tells.0 e)) (λ (e : same_parts h i ≡ true). tells.1 (law.0 e))

  -- one constant: the forms don't differ in it
  pub one_constant : (other : Bool) → other ≡ not (int_eq f.constant g.constant) → other ≡ false →
      other ≡ (same_parts h i && not (int_eq h.constant i.constant))
  one_constant other is e =
      e ∙ sym (by (same_parts h i)) ∙ ap (λ (b : Bool). same_parts h i && b) (sym e ∙ is ∙ ap not constants)
    where
      by : (b : Bool) → (b && false) ≡ false
      by true = refl
      by false = refl

  -- two constants: the parts decide
  pub two_constants : (other same : Bool) → other ≡ not (int_eq f.constant g.constant) → other ≡ true →
      (same ≡ true) ↔ (f.parts ≡ g.parts) → same ≡ (same_parts h i && not (int_eq h.constant i.constant))
  two_constants other same is e tells =
      parts same tells
      ∙ sym (and_true (same_parts h i))
      ∙ ap (λ (b : Bool). same_parts h i && b) (sym e ∙ is ∙ ap not constants)
    where
      and_true : (b : Bool) → (b && true) ≡ b
      and_true true = refl
      and_true false = refl

differ_sym : (sorts : Sorts) (t u : Tree) → differ sorts t u ≡ differ sorts u t
differ_sym sorts t u =
    let f = linear_of t in
    let g = linear_of u in
    by (is_numeric sorts t) (is_numeric sorts u) (same_parts f g) (same_parts g f) (not (int_eq f.constant g.constant))
    (not (int_eq g.constant f.constant)) (swap (agree_with g.parts f.parts) (agree_with f.parts g.parts))
    (ap not (int_eq_sym f.constant g.constant))
  where
    swap : (a b : Bool) → (a && b) ≡ (b && a)
    swap true true = refl
    swap true false = refl
    swap false true = refl
    swap false false = refl

    by : (a b p q c d : Bool) → p ≡ q → c ≡ d → (a && (b && (p && c))) ≡ (b && (a && (q && d)))
    by true true p q c d same other = ap (λ (x : Bool). x && c) same ∙ ap (λ (x : Bool). q && x) other
    by true false p q c d same other = refl
    by false true p q c d same other = refl
    by false false p q c d same other = refl

-- no term differs from itself
differ_self : (sorts : Sorts) (t : Tree) → differ sorts t t ≡ false
differ_self sorts t =
    let f = linear_of t in
    by (is_numeric sorts t) (same_parts f f) (int_eq f.constant f.constant) ((Decides-int_eq f.constant f.constant).1 refl)
  where
    by : (a p c : Bool) → c ≡ true → (a && (a && (p && not c))) ≡ false
    by true true c e = ap not e
    by true false c e = refl
    by false p c e = refl

-- one number is less than the other, or they are one
three : (m n : ℕ) → (m < n) ⊎ ((n ≡ m) ⊎ (n < m))
three zero zero = inr (inl refl)
three zero (suc n) = inl (omega arith)
three (suc m) zero = inr (inr (omega arith))
three (suc m) (suc n) =
    ⊎_elim (λ (less : m < n). inl (omega (arith, less)))
    (λ (rest : (n ≡ m) ⊎ (n < m)).
    inr (⊎_elim (λ (same : n ≡ m). inl (ap suc same)) (λ (more : n < m). inr (omega (arith, more))) rest))
    (three m n)

-- a place before one is before a later one
pub below_later : (m n : ℕ) (place : Option ℕ) → m < n → IfSome place (λ (k : ℕ). k < m) → IfSome place (λ (k : ℕ). k < n)
below_later m n None h below = tt
below_later m n (Some k) h below = omega (arith, h, below)

-- the places from one on are searched: none there that has the label of the place n differs from it
pub record IsSearched (sorts : Sorts) (trees : List Tree) (labels : List ℕ) (n : ℕ) (place : Option ℕ) : Type 0 where
  pub same : IfSome place (λ (m : ℕ). slice_index labels m ≡ slice_index labels n)
  pub none :
      (m : ℕ) → behind place ≤ m → m < n → slice_index labels m ≡ slice_index labels n →
      differ sorts (tree_at trees n) (tree_at trees m) ≡ false

module _ (sorts : Sorts) (trees : List Tree) (labels : List ℕ) (n : ℕ) where
  -- one place more on the chain
  pub searched_next : (j : ℕ) (place : Option ℕ) → IsSearched sorts trees labels n (Some j) →
      differ sorts (tree_at trees n) (tree_at trees j) ≡ false → IsLastWith labels (slice_index labels j) j place →
      IsSearched sorts trees labels n place
  searched_next j place so_far here last = record {
    same = by place last.same;
    none = λ m k h e. found m k h e (three m j);
  }
    where
      by : (p : Option ℕ) → IfSome p (λ (m : ℕ). slice_index labels m ≡ slice_index labels j) →
          IfSome p (λ (m : ℕ). slice_index labels m ≡ slice_index labels n)
      by None h = tt
      by (Some m) h = h ∙ so_far.same

      found : (m : ℕ) → behind place ≤ m → m < n → slice_index labels m ≡ slice_index labels n → (m < j) ⊎ ((j ≡ m) ⊎ (j < m)) →
          differ sorts (tree_at trees n) (tree_at trees m) ≡ false
      found m k h e (inl less) = absurd (last.last m k less (e ∙ sym so_far.same))
      found m k h e (inr (inl same)) = subst (λ (x : ℕ). differ sorts (tree_at trees n) (tree_at trees x) ≡ false) same here
      found m k h e (inr (inr more)) = so_far.none m more h e

-- what labels tell of terms that are torn
module _ (sorts : Sorts) (trees : List Tree) (equal : Pairs) (labels : List ℕ) (count : length labels ≡ length trees)
    (tell : TellClasses trees equal labels) where
  tells : (i j : ℕ) → i < length trees → j < length trees →
      (slice_index labels i == slice_index labels j) ≡ equal (tree_at trees i) (tree_at trees j)
  tells i j h k =
      tell i j (slice_index labels i) (slice_index labels j) (tree_at trees i) (tree_at trees j) (slice_get-get_or trees i (Lit (pos 0)) h)
      (slice_get-get_or trees j (Lit (pos 0)) k) (slice_get-get_or labels i 0 (omega arith)) (slice_get-get_or labels j 0 (omega arith))

  -- a partner that was found
  pub torn_found : (n : ℕ) (u : TermId) → n < length trees → IsPartnerIf sorts trees labels n (Some u) →
      (u.0 < length trees) × (torn_by sorts equal (tree_at trees n) (tree_at trees u.0) ≡ true)
  torn_found n u h found =
      let inside : u.0 < length trees = omega (arith, h, found.0) in
      let same : equal (tree_at trees n) (tree_at trees u.0) ≡ true =
      sym (tells n u.0 h inside) ∙ eq-eqb (slice_index labels n) (slice_index labels u.0) (sym found.1) in
      (inside, ap (λ (b : Bool). b && differ sorts (tree_at trees n) (tree_at trees u.0)) same ∙ found.2)

  -- none was found
  pub none_torn : ((n : ℕ) → n < length trees → IsPartnerIf sorts trees labels n None) → list_any (any_torn sorts equal trees) trees ≡ false
  none_torn none =
      none_passes (any_torn sorts equal trees) (Lit (pos 0)) trees
      (λ i h. none_passes (torn_by sorts equal (tree_at trees i)) (Lit (pos 0)) trees (λ j k. apart i j h k))
    where
      both : (i j : ℕ) → i < length trees → j < length trees → slice_index labels i ≡ slice_index labels j → (i < j) ⊎ ((j ≡ i) ⊎ (j < i)) →
          differ sorts (tree_at trees i) (tree_at trees j) ≡ false
      both i j h k e (inl less) = differ_sym sorts (tree_at trees i) (tree_at trees j) ∙ none j k i less e
      both i j h k e (inr (inl same)) =
          subst (λ (x : ℕ). differ sorts (tree_at trees x) (tree_at trees j) ≡ false) same (differ_self sorts (tree_at trees j))
      both i j h k e (inr (inr more)) = none i h j more (sym e)

      apart : (i j : ℕ) → i < length trees → j < length trees → torn_by sorts equal (tree_at trees i) (tree_at trees j) ≡ false
      apart i j h k = by (equal (tree_at trees i) (tree_at trees j)) refl
        where
          by : (b : Bool) → equal (tree_at trees i) (tree_at trees j) ≡ b → (b && differ sorts (tree_at trees i) (tree_at trees j)) ≡ false
          by true is = both i j h k (eqb-true _ _ (tells i j h k ∙ is)) (three i j)
          by false is = refl
