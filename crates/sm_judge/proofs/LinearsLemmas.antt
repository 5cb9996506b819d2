-- The form of each term of a table by the places of terms.
use Rattle.sm_judge.proofs.Imports.{◌≡◌, pos, ◌<◌, ◌≤◌, slice_get, get_or, Some, None, List, [], ◌∷◌, ◌++◌, take, length, refl, sym, ap, subst, ◌∙◌, ⊎_elim, ◌⊎◌, inl, inr, arith, cases_lt, ext_get_or, get_or-map, get_or_append_left, get_or_push, length-map, length_push, take-append-le, slice_get-get_or, slice_get_within, get_or_from_slice_get, Linear, Tree, Lit, tree_at, AreApart, linear_of, linear_by, StandsAt, IsKeptFor, AreLinearForms, PlacesStay, parts_are_one, stands_later, AreAllForms, linear_forms, form_at, no_form, HavePlaces, place_in}
use Rattle.std.proofs.Common.{ℕ}
use Rattle.sm_theory.proofs.FormsOfTermsLemmas.{one_place}
use Rattle.sm_theory.proofs.LinearNumbers.{linear_stands}
use Rattle.sm_theory.proofs.LinearPlaces.{place_or_not}
use Rattle.sm_pairs.proofs.LongerLemmas.{slice_get-longer}

-- two forms that are kept for one are one
pub kept_once : (trees : List Tree) (f h : Linear ℕ) (g : Linear Tree) → IsKeptFor trees f g → IsKeptFor trees h g → f ≡ h
kept_once trees f h g first second =
    let parts : f.parts ≡ h.parts =
    parts_are_one 0 f.parts h.parts first.kept.parts second.kept.parts
    (λ (n : ℕ).
    ⊎_elim
    (λ (there : (t : Tree) × StandsAt trees n t).
    first.stands.at_places n there.0 there.1 ∙ sym (second.stands.at_places n there.0 there.1))
    (λ (none : slice_get trees n ≡ None). first.stands.no_other_number n none ∙ sym (second.stands.no_other_number n none))
    (place_or_not trees n)) in
    let constant : f.constant ≡ h.constant = first.stands.constant ∙ sym second.stands.constant in
    let kind : f.kind ≡ h.kind = first.stands.kind ∙ sym second.stands.kind in
    λ k. record { parts = parts k; constant = constant k; kind = kind k }

-- the form at a place is that of the term there
pub form_is : (trees : List Tree) (n : ℕ) → n < length trees → form_at (linear_forms trees) n ≡ linear_by (place_in trees) (tree_at trees n)
form_is trees n inside = get_or-map (linear_by (place_in trees)) trees n (Lit (pos 0)) no_form inside

-- the forms of all terms are those by the places of the terms
pub all_forms_are : (trees : List Tree) (forms : List (Linear ℕ)) → AreApart trees → HavePlaces trees → AreAllForms trees forms →
    forms ≡ linear_forms trees
all_forms_are trees forms apart have all =
    let place = place_in trees in
    ext_get_or no_form forms (linear_forms trees) (all.counted ∙ sym (length-map trees (linear_by place)))
    (λ (i : ℕ) (h : i < length forms).
    let inside : i < length trees = omega (arith, h, all.counted) in
    let t = tree_at trees i in
    kept_once trees (get_or forms i no_form) (linear_by place t) (linear_of t)
    (all.each i (get_or forms i no_form) (slice_get-get_or forms i no_form h))
    (linear_stands trees (one_place trees apart) place t (have i inside))
    ∙ sym (get_or-map (linear_by place) trees i (Lit (pos 0)) no_form inside))

-- no forms yet
pub no_forms : (trees : List Tree) (forms : List (Linear ℕ)) → forms ≡ [] →
    (first : List Tree) × (more : List Tree) × (trees ≡ first ++ more) × AreAllForms first forms
no_forms trees forms none =
    ([], trees, refl, subst (AreAllForms []) (sym none) (record { each = λ n f at. absurd cc; counted = refl }))

-- one form more
pub form_added : (trees : List Tree) (forms : List (Linear ℕ)) (f : Linear ℕ) → AreLinearForms trees forms →
    IsKeptFor trees f (linear_of (tree_at trees (length forms))) → AreLinearForms trees (forms ++ f ∷ [])
form_added trees forms f all keeps n g at = by (cases_lt n (length forms))
  where
    is : get_or (forms ++ f ∷ []) n f ≡ g
    is = get_or_from_slice_get (forms ++ f ∷ []) n g f at

    by : (n < length forms) ⊎ (length forms ≤ n) → IsKeptFor trees g (linear_of (tree_at trees n))
    by (inl less) =
        let old : get_or forms n f ≡ g = sym (get_or_append_left forms (f ∷ []) f n less) ∙ is in
        all n g (slice_get-get_or forms n f less ∙ ap Some old)
    by (inr more) =
        let within = slice_get_within (forms ++ f ∷ []) n g at in
        let long = length_push forms f in
        let last : length forms ≡ n = omega (arith, more, within, long) in
        let new : f ≡ g = sym (get_or_push forms f f n last) ∙ is in
        subst (λ (h : Linear ℕ). IsKeptFor trees h (linear_of (tree_at trees n))) new
        (subst (λ (m : ℕ). IsKeptFor trees f (linear_of (tree_at trees m))) last keeps)

-- forms of the first terms are such where more stand behind these
pub forms_later : (trees first more : List Tree) (forms : List (Linear ℕ)) → AreApart trees → trees ≡ first ++ more →
    AreAllForms first forms → AreLinearForms trees forms
forms_later trees first more forms apart are all n f at =
    let inside : n < length first = omega (arith, slice_get_within forms n f at, all.counted) in
    let same : tree_at trees n ≡ tree_at first n =
    ap (λ (ts : List Tree). tree_at ts n) are ∙ get_or_append_left first more (Lit (pos 0)) n inside in
    subst (λ (t : Tree). IsKeptFor trees f (linear_of t)) (sym same)
    (stands_later first trees f (linear_of (tree_at first n)) stay (one_place trees apart) (all.each n f at))
  where
    stay : PlacesStay first trees
    stay m t there = slice_get-longer first trees (more, are) m t there

-- the first of longer forms are those of the first terms
pub first_forms : (first : List Tree) (forms all more : List (Linear ℕ)) → AreAllForms first forms → all ≡ forms ++ more →
    AreAllForms first (take (length first) all)
first_forms first forms all more old are =
    let few : length first ≤ length forms = omega (arith, old.counted) in
    subst (AreAllForms first) (sym (ap (take (length first)) are ∙ take-append-le (length first) forms more few ∙ whole)) old
  where
    take_all : {A : Type 0} (xs : List A) → take (length xs) xs ≡ xs
    take_all [] = refl
    take_all (x ∷ xs) = ap (λ l. x ∷ l) (take_all xs)

    whole : take (length first) forms ≡ forms
    whole = ap (λ (n : ℕ). take n forms) (sym old.counted) ∙ take_all forms
