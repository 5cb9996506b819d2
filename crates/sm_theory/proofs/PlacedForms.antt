-- A form over numbers that is kept for a form over terms, by the places of the terms, is the form_by_places form.
-- Where an atom has no place, there is none. The terms of formulas have one place each.
use Rattle.sm_theory.proofs.Imports.{◌≡◌, ◌<◌, ℕ, zero, suc, ◌+◌, ◌-◌, nat_lt, ℤ, pos, Bool, true, false, not, if◌then◌else◌, slice_get, Option, Some, None, List, [], ◌∷◌, refl, subst, sym, ap, ◌∙◌, ⊎_elim, arith, int_eq, list_all, cases_Bool, and_from, ltb-true, ltb-false, fits_form, Linear, coefficient, parts_without, AreParts, with_part, same_atom, AreReduced, same_atom_sound, same_atom_reflexive, other_test, not_both, apart_zero, coefficient_one, coefficient_past, coefficient_filter, reduced_filter, parts_apart, parts_reduced, Tree, same_tree, followed, parts_by_places, where_in_range, form_by_places, forms_by_places, StandsAt, HaveOnePlace, IsKeptFor}
use Rattle.sm_theory.proofs.LinearSameTree.{tree_sound, tree_reflexive}
use Rattle.sm_theory.proofs.LinearAlikeLemmas.{none_there, once_reduced}
use Rattle.sm_theory.proofs.ExactLineSound.{part_fits, with_parts}

-- ascending parts from n on: what n has, and the parts behind it
record FirstPart (n : ℕ) (qs : List (ℕ × ℤ)) : Type 0 where
  rest : List (ℕ × ℤ)
  kept : AreParts (suc n) rest
  whole : with_part n (coefficient same_atom n qs) rest ≡ qs
  behind : (j : ℕ) → n < j → coefficient same_atom j rest ≡ coefficient same_atom j qs

first_part : (n : ℕ) (qs : List (ℕ × ℤ)) → AreParts n qs → FirstPart n qs
first_part n [] parts = record { rest = []; kept = tt; whole = refl; behind = λ j less. refl }
first_part n (q ∷ qs) parts = by (same_atom n q.0) refl
  where
    there : same_atom n q.0 ≡ true → with_part n (coefficient same_atom n (q ∷ qs)) qs ≡ q ∷ qs
    there e =
        let c : coefficient same_atom n (q ∷ qs) ≡ q.1 = coefficient_one same_atom n q qs same_atom_sound
        (parts_apart q.0 (suc q.0) qs (omega arith) parts.3) e in
        let some : int_eq q.1 (pos 0) ≡ false = other_test q.1 parts.2 in
        ap (λ (z : ℤ). with_part n z qs) c ∙ ap (λ (b : Bool). if b then qs else (n, q.1) ∷ qs) some
        ∙ ap (λ (m : ℕ). (m, q.1) ∷ qs) (same_atom_sound n q.0 e)

    above : n < q.0 → with_part n (coefficient same_atom n (q ∷ qs)) (q ∷ qs) ≡ q ∷ qs
    above less = ap (λ (z : ℤ). with_part n z (q ∷ qs))
        (apart_zero same_atom n (q ∷ qs) (parts_apart n q.0 (q ∷ qs) less (omega arith, parts.1, parts.2, parts.3)))

    other : same_atom n q.0 ≡ false → n < q.0
    other e = ⊎_elim (λ (less : nat_lt n q.0 ≡ true). ltb-true n q.0 less)
        (λ (more : nat_lt n q.0 ≡ false).
        let most = ltb-false n q.0 more in
        let least = parts.0 in
        let equal : n ≡ q.0 = omega arith in
        absurd (not_both (same_atom n q.0) (subst (λ (m : ℕ). same_atom n m ≡ true) equal (same_atom_reflexive n)) e))
        (cases_Bool (nat_lt n q.0))

    by : (b : Bool) → same_atom n q.0 ≡ b → FirstPart n (q ∷ qs)
    by true e = record {
      rest = qs;
      kept = subst (λ (m : ℕ). AreParts (suc m) qs) (sym (same_atom_sound n q.0 e)) parts.3;
      whole = there e;
      behind = λ (j : ℕ) (less : n < j).
          sym (coefficient_past same_atom j q qs
          (⊎_elim (λ (t : same_atom j q.0 ≡ true).
          let one : j ≡ q.0 = same_atom_sound j q.0 t in let two : n ≡ q.0 = same_atom_sound n q.0 e in absurd (let no : ⊥ = omega arith in no))
          (λ (f : same_atom j q.0 ≡ false). f) (cases_Bool (same_atom j q.0))));
    }
    by false e =
        let less = other e in
        record {
          rest = q ∷ qs;
          kept = (less, parts.1, parts.2, parts.3);
          whole = above less;
          behind = λ j more. refl;
        }

-- a coefficient of the parts without a term
without_other : (t u : Tree) (ps : List (Tree × ℤ)) → same_tree t u ≡ false →
    coefficient same_tree u (parts_without same_tree t ps) ≡ coefficient same_tree u ps
without_other t u ps e = coefficient_filter same_tree tree_sound (λ (v : Tree). not (same_tree t v)) u ps
    ∙ ap (λ (b : Bool). if not b then coefficient same_tree u ps else pos 0) e

without_itself : (t u : Tree) (ps : List (Tree × ℤ)) → same_tree t u ≡ true →
    coefficient same_tree u (parts_without same_tree t ps) ≡ pos 0
without_itself t u ps e = coefficient_filter same_tree tree_sound (λ (v : Tree). not (same_tree t v)) u ps
    ∙ ap (λ (b : Bool). if not b then coefficient same_tree u ps else pos 0) e

-- a term that stands elsewhere isn't the first
not_first : (t u : Tree) (ts : List Tree) (i : ℕ) → HaveOnePlace (t ∷ ts) → StandsAt ts i u → same_tree t u ≡ false
not_first t u ts i distinct e =
    ⊎_elim
    (λ (s : same_tree t u ≡ true).
    let same : t ≡ u = tree_sound t u s in
    let wrong : 0 ≡ suc i = distinct 0 (suc i) u (ap Some same) e in absurd (let no : ⊥ = omega arith in no))
    (λ (s : same_tree t u ≡ false). s)
    (cases_Bool (same_tree t u))

-- the other terms have one place each too
later_places : (t : Tree) (ts : List Tree) → HaveOnePlace (t ∷ ts) → HaveOnePlace ts
later_places t ts distinct i j u first second =
    let both : suc i ≡ suc j = distinct (suc i) (suc j) u first second in omega arith

-- parts by places, from n on, are kept for parts
record ArePartsFor (ts : List Tree) (n : ℕ) (ps : List (Tree × ℤ)) (qs : List (ℕ × ℤ)) : Type 0 where
  at : (i : ℕ) (t : Tree) → StandsAt ts i t → coefficient same_atom (n + i) qs ≡ coefficient same_tree t ps
  past : (i : ℕ) → slice_get ts i ≡ None → coefficient same_atom (n + i) qs ≡ pos 0
  other : (t : Tree) → ((i : ℕ) → StandsAt ts i t → ⊥) → coefficient same_tree t ps ≡ pos 0

-- they are the form_by_places parts
placed_parts_are : (ts : List Tree) (n : ℕ) (ps : List (Tree × ℤ)) (qs : List (ℕ × ℤ)) → HaveOnePlace ts → AreReduced same_tree ps →
    AreParts n qs → ArePartsFor ts n ps qs → parts_by_places ts n ps ≡ Some qs
placed_parts_are [] n ps qs distinct reduced parts stands =
    let no_part : ps ≡ [] = none_there same_tree tree_sound tree_reflexive ps reduced
    (λ (t : Tree). sym (stands.other t (λ (i : ℕ) (e : StandsAt [] i t). absurd cc))) in
    let none : qs ≡ [] = none_there same_atom same_atom_sound same_atom_reflexive qs (parts_reduced n qs parts) (λ (a : ℕ). sym (nothing a)) in
    subst (λ (rs : List (Tree × ℤ)). parts_by_places [] n rs ≡ Some qs) (sym no_part) (ap Some (sym none))
  where
    nothing : (a : ℕ) → coefficient same_atom a qs ≡ pos 0
    nothing a =
        ⊎_elim
        (λ (less : nat_lt a n ≡ true). apart_zero same_atom a qs (parts_apart a n qs (ltb-true a n less) parts))
        (λ (more : nat_lt a n ≡ false).
        let least = ltb-false a n more in
        let here : n + (a - n) ≡ a = omega arith in
        subst (λ (b : ℕ). coefficient same_atom b qs ≡ pos 0) here (stands.past (a - n) refl))
        (cases_Bool (nat_lt a n))
placed_parts_are (t ∷ ts) n ps qs distinct reduced parts stands =
    let s = first_part n qs parts in
    let c = coefficient same_tree t ps in
    let others = parts_without same_tree t ps in
    let here : coefficient same_atom n qs ≡ c = ap (λ (a : ℕ). coefficient same_atom a qs) (let none : n ≡ n + 0 = omega arith in none)
    ∙ stands.at 0 t refl in
    let later : parts_by_places ts (suc n) others ≡ Some s.rest =
    placed_parts_are ts (suc n) others s.rest (later_places t ts distinct) (reduced_filter same_tree (λ r. not (same_tree t r.0)) ps reduced)
    s.kept (behind s) in
    ap (λ (o : Option (List (ℕ × ℤ))). followed o (λ (rest : List (ℕ × ℤ)). Some (with_part n c rest))) later
    ∙ ap Some (ap (λ (z : ℤ). with_part n z s.rest) (sym here) ∙ s.whole)
  where
    after : (s : FirstPart n qs) (i : ℕ) → coefficient same_atom (suc n + i) s.rest ≡ coefficient same_atom (n + suc i) qs
    after s i = s.behind (suc n + i) (omega arith)
        ∙ ap (λ (a : ℕ). coefficient same_atom a qs) (let one : suc n + i ≡ n + suc i = omega arith in one)

    behind : (s : FirstPart n qs) → ArePartsFor ts (suc n) (parts_without same_tree t ps) s.rest
    behind s = record {
      at = λ (i : ℕ) (u : Tree) (e : StandsAt ts i u). after s i ∙ stands.at (suc i) u e
          ∙ sym (without_other t u ps (not_first t u ts i distinct e));
      past = λ (i : ℕ) (e : slice_get ts i ≡ None). after s i ∙ stands.past (suc i) e;
      other = λ (u : Tree) (never : (i : ℕ) → StandsAt ts i u → ⊥).
          ⊎_elim (λ (e : same_tree t u ≡ true). without_itself t u ps e)
          (λ (e : same_tree t u ≡ false). without_other t u ps e ∙ stands.other u (nowhere u e never))
          (cases_Bool (same_tree t u));
    }
      where
        nowhere : (u : Tree) → same_tree t u ≡ false → ((i : ℕ) → StandsAt ts i u → ⊥) → (i : ℕ) → StandsAt (t ∷ ts) i u → ⊥
        nowhere u e never zero stands =
            let same : t ≡ u = cc in
            not_both (same_tree t u) (subst (λ (v : Tree). same_tree t v ≡ true) same (tree_reflexive t)) e
        nowhere u e never (suc i) stands = never i stands

-- the coefficients of kept parts are in the range
parts_in_range : (least : ℕ) (qs : List (ℕ × ℤ)) → AreParts least qs → list_all part_fits qs ≡ true
parts_in_range least [] parts = refl
parts_in_range least (q ∷ qs) parts = and_from (fits_form q.1) (list_all part_fits qs) parts.1 (parts_in_range (suc q.0) qs parts.3)

-- a form that is kept for a form, by the places of the terms, is the form_by_places form
pub placed_is : (terms : List Tree) (h : Linear ℕ) (g : Linear Tree) → HaveOnePlace terms → IsKeptFor terms h g → form_by_places terms g ≡ Some h
placed_is terms h g distinct keeps =
    let parts = placed_parts_are terms 0 g.parts h.parts distinct (once_reduced g.parts keeps.once) keeps.kept.parts
    (record {
      at = λ (i : ℕ) (t : Tree) (e : StandsAt terms i t). from_start i ∙ keeps.stands.at_places i t e;
      past = λ (i : ℕ) (e : slice_get terms i ≡ None). from_start i ∙ keeps.stands.no_other_number i e;
      other = λ (t : Tree) (never : (i : ℕ) → StandsAt terms i t → ⊥). keeps.stands.no_other_term t never;
    }) in
    let test = and_from (list_all part_fits h.parts) (fits_form h.constant) (parts_in_range 0 h.parts keeps.kept.parts) keeps.kept.constant in
    ap (λ (o : Option (List (ℕ × ℤ))). followed o (λ (ps : List (ℕ × ℤ)). where_in_range (with_parts g ps))) parts
    ∙ ap where_in_range same
    ∙ ap (λ (b : Bool). if b then Some h else None) test
  where
    from_start : (i : ℕ) → coefficient same_atom (0 + i) h.parts ≡ coefficient same_atom i h.parts
    from_start i = ap (λ (a : ℕ). coefficient same_atom a h.parts) (let none : 0 + i ≡ i = omega arith in none)

    same : with_parts g h.parts ≡ h
    same =
        ap (λ (c : ℤ). record { parts = h.parts; constant = c; kind = g.kind }) (sym keeps.stands.constant)
        ∙ ap (λ k. record { parts = h.parts; constant = h.constant; kind = k }) (sym keeps.stands.kind)

-- each form is kept for the form at its place
abbrev pub AreKeptFor : List Tree → List (Linear ℕ) → List (Linear Tree) → Type 0
AreKeptFor terms [] [] = Unit {0}
AreKeptFor terms [] (g ∷ gs) = ⊥
AreKeptFor terms (h ∷ hs) [] = ⊥
AreKeptFor terms (h ∷ hs) (g ∷ gs) = IsKeptFor terms h g × AreKeptFor terms hs gs

-- forms that are kept for forms, by the places of the terms, are the forms_by_places forms
pub all_placed_are : (terms : List Tree) (hs : List (Linear ℕ)) (gs : List (Linear Tree)) → HaveOnePlace terms → AreKeptFor terms hs gs →
    forms_by_places terms gs ≡ Some hs
all_placed_are terms [] [] distinct keeps = refl
all_placed_are terms [] (g ∷ gs) distinct keeps = absurd keeps
all_placed_are terms (h ∷ hs) [] distinct keeps = absurd keeps
all_placed_are terms (h ∷ hs) (g ∷ gs) distinct keeps =
    ap (λ (o : Option (Linear ℕ)). followed o (λ (f : Linear ℕ). followed (forms_by_places terms gs) (λ (fs : List (Linear ℕ)). Some (f ∷ fs))))
    (placed_is terms h g distinct keeps.0)
    ∙ ap (λ (o : Option (List (Linear ℕ))). followed o (λ (fs : List (Linear ℕ)). Some (h ∷ fs))) (all_placed_are terms hs gs distinct keeps.1)

-- parts with a term that has no place aren't form_by_places
unplaced_parts : (ts : List Tree) (n : ℕ) (ps : List (Tree × ℤ)) (u : Tree) → ((i : ℕ) → StandsAt ts i u → ⊥) →
    (coefficient same_tree u ps ≡ pos 0 → ⊥) → parts_by_places ts n ps ≡ None
unplaced_parts [] n [] u never some = absurd (some refl)
unplaced_parts [] n (p ∷ ps) u never some = refl
unplaced_parts (t ∷ ts) n ps u never some =
    let other : same_tree t u ≡ false =
    ⊎_elim (λ (e : same_tree t u ≡ true). absurd (never 0 (ap Some (tree_sound t u e)))) (λ (e : same_tree t u ≡ false). e)
    (cases_Bool (same_tree t u)) in
    ap (λ (o : Option (List (ℕ × ℤ))). followed o (λ (rest : List (ℕ × ℤ)). Some (with_part n (coefficient same_tree t ps) rest)))
    (unplaced_parts ts (suc n) (parts_without same_tree t ps) u (λ (i : ℕ) (e : StandsAt ts i u). never (suc i) e)
    (λ (none : coefficient same_tree u (parts_without same_tree t ps) ≡ pos 0). some (sym (without_other t u ps other) ∙ none)))

-- a form with a term that has no place has no form by places
pub unplaced : (terms : List Tree) (g : Linear Tree) (u : Tree) → ((i : ℕ) → StandsAt terms i u → ⊥) →
    (coefficient same_tree u g.parts ≡ pos 0 → ⊥) → form_by_places terms g ≡ None
unplaced terms g u never some =
    ap (λ (o : Option (List (ℕ × ℤ))). followed o (λ (ps : List (ℕ × ℤ)). where_in_range (with_parts g ps)))
    (unplaced_parts terms 0 g.parts u never some)
