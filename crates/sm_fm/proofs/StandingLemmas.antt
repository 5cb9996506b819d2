-- The forms that stand, from one atom to the next and as the list grows.
use Rattle.sm_fm.proofs.Imports.{◌≡◌, ◌≢◌, ◌+◌, ⊎_elim, ℕ, zero, suc, ℤ, pos, Bool, true, false, ◌&&◌, ◌||◌, not, cond, List, [], ◌∷◌, ◌++◌, length, refl, sym, ap, ◌∙◌, arith, list_any, int_eq, cases_eq, cases_Bool, Decides-int_eq, filter-append, Linear, coefficient, same_atom, Placed, same_form, has_atom, forms_without, placed_from, has, has_none_before, standing, same_form-Decides, Lacks}
use Rattle.std.specs.List.{filter}
use Rattle.sm_fm.proofs.PlaceLemmas.{and_first, and_second}

module _ {X : Type 0} (first second : X → Bool) where
  -- what passes a second test of those that pass a first passes both
  pub chosen_twice : (xs : List X) → filter second (filter first xs) ≡ filter (λ x. first x && second x) xs
  chosen_twice [] = refl
  chosen_twice (x ∷ xs) = by (first x) (chosen_twice xs)
    where
      by : (b : Bool) → filter second (filter first xs) ≡ filter (λ y. first y && second y) xs →
          filter second (cond b (x ∷ filter first xs) (filter first xs))
          ≡ cond (b && second x) (x ∷ filter (λ y. first y && second y) xs) (filter (λ y. first y && second y) xs)
      by true rest = ap (λ (l : List X). cond (second x) (x ∷ l) l) rest
      by false rest = rest

  -- those that don't pass the first change nothing where they don't pass the second
  pub any_chosen : ((x : X) → first x ≡ false → second x ≡ false) → (xs : List X) → list_any second (filter first xs) ≡ list_any second xs
  any_chosen fails [] = refl
  any_chosen fails (x ∷ xs) = by (first x) refl (any_chosen fails xs)
    where
      by : (b : Bool) → first x ≡ b → list_any second (filter first xs) ≡ list_any second xs →
          list_any second (cond b (x ∷ filter first xs) (filter first xs)) ≡ (second x || list_any second xs)
      by true is rest = ap (λ (c : Bool). second x || c) rest
      by false is rest = rest ∙ ap (λ (c : Bool). c || list_any second xs) (sym (fails x is))

-- a test that all pass
chosen_all : (xs : List Placed) → filter (λ x. true) xs ≡ xs
chosen_all [] = refl
chosen_all (x ∷ xs) = ap (λ (l : List Placed). x ∷ l) (chosen_all xs)

-- a test for 0 that fails
zero_told : (z : ℤ) → not (not (int_eq z (pos 0))) ≡ true → z ≡ pos 0
zero_told z e = (Decides-int_eq z (pos 0)).0 (twice (int_eq z (pos 0)) e)
  where
    twice : (b : Bool) → not (not b) ≡ true → b ≡ true
    twice true h = refl
    twice false h = h

-- a form that has no atom before one lacks each
pub lacks_told : (t : ℕ) (h : Linear ℕ) → has_none_before t h ≡ true → Lacks t h
lacks_told zero h e = λ a below. absurd (omega arith)
lacks_told (suc t) h e = λ a below.
    ⊎_elim
    (λ (same : a ≡ t).
    ap (λ (b : ℕ). coefficient same_atom b h.parts) same
    ∙ zero_told (coefficient same_atom t h.parts) (and_second (has_none_before t h) (not (has t h)) e))
    (λ (other : a ≢ t). lacks_told t h (and_first (has_none_before t h) (not (has t h)) e) a (omega arith))
    (cases_eq a t)

-- a form that lacks each atom before one has no atom before it
pub told_lacks : (t : ℕ) (h : Linear ℕ) → Lacks t h → has_none_before t h ≡ true
told_lacks zero h lacks = refl
told_lacks (suc t) h lacks =
    both (has_none_before t h) (int_eq (coefficient same_atom t h.parts) (pos 0)) (told_lacks t h (λ a below. lacks a (omega arith)))
    ((Decides-int_eq (coefficient same_atom t h.parts) (pos 0)).1 (lacks t (omega arith)))
  where
    both : (a b : Bool) → a ≡ true → b ≡ true → a && not (not b) ≡ true
    both a b first second = rw (first, second) refl

-- to begin with, all forms stand
pub all_stand : (forms : List (Linear ℕ)) → standing forms 0 ≡ placed_from 0 forms
all_stand forms = chosen_all (placed_from 0 forms)

-- those without the atom stand at the next
pub others_stand : (forms : List (Linear ℕ)) (t : ℕ) → forms_without t (standing forms t) ≡ standing forms (suc t)
others_stand forms t = chosen_twice (λ (f : Placed). has_none_before t f.form) (λ (f : Placed). not (has_atom t f)) (placed_from 0 forms)

-- one more form has the next place
placed_more : (n m : ℕ) (fs : List (Linear ℕ)) (h : Linear ℕ) → n + length fs ≡ m →
    placed_from n (fs ++ h ∷ []) ≡ placed_from n fs ++ record { place = m; form = h } ∷ []
placed_more n m [] h e =
    let same : n ≡ m = omega arith in
    ap (λ (k : ℕ). record { place = k; form = h } ∷ []) same
placed_more n m (f ∷ fs) h e = ap (λ (l : List Placed). record { place = n; form = f } ∷ l) (placed_more (suc n) m fs h (omega arith))

-- a form that has no atom before the one at hand stands behind the others
pub standing_grows : (forms : List (Linear ℕ)) (h : Linear ℕ) (t : ℕ) → has_none_before t h ≡ true →
    standing (forms ++ h ∷ []) t ≡ standing forms t ++ record { place = length forms; form = h } ∷ []
standing_grows forms h t stands =
    let test = λ (f : Placed). has_none_before t f.form in
    let new : Placed = record { place = length forms; form = h } in
    ap (filter test) (placed_more 0 (length forms) forms h (omega arith))
    ∙ filter-append test (placed_from 0 forms) (new ∷ [])
    ∙ ap (λ (b : Bool). standing forms t ++ cond b (new ∷ []) []) stands

-- all forms are among themselves with their places
among_all : (n : ℕ) (forms : List (Linear ℕ)) (h : Linear ℕ) →
    list_any (λ (f : Placed). same_form h f.form) (placed_from n forms) ≡ list_any (same_form h) forms
among_all n [] h = refl
among_all n (f ∷ fs) h = ap (λ (b : Bool). same_form h f || b) (among_all (suc n) fs h)

-- a form that lacks the earlier atoms is the same as one that stands, or as none
pub stands_or_new : (forms : List (Linear ℕ)) (t : ℕ) (h : Linear ℕ) → Lacks t h →
    list_any (λ (f : Placed). same_form h f.form) (standing forms t) ≡ list_any (same_form h) forms
stands_or_new forms t h lacks =
    any_chosen (λ (f : Placed). has_none_before t f.form) (λ (f : Placed). same_form h f.form) other (placed_from 0 forms)
    ∙ among_all 0 forms h
  where
    other : (f : Placed) → has_none_before t f.form ≡ false → same_form h f.form ≡ false
    other f has =
        ⊎_elim
        (λ (same : same_form h f.form ≡ true).
        let e = (same_form-Decides h f.form).0 same in
        let wrong : true ≡ false = sym (told_lacks t h lacks) ∙ ap (has_none_before t) e ∙ has in
        absurd cc)
        (λ (no : same_form h f.form ≡ false). no)
        (cases_Bool (same_form h f.form))
