-- Kept forms compared, with 1 more, and where more terms have places.
use Rattle.sm_theory.proofs.Imports.{◌≡◌, ◌↔◌, ◌<◌, ℕ, suc, nat_lt, ℤ, pos, ◌+ℤ◌, true, false, IsTrue, slice_get, Some, None, List, [], ◌∷◌, refl, sym, ap, subst, ◌∙◌, ⊎_elim, arith, int_eq, cases_Bool, and_from, ltb-true, ltb-false, Decides-int_eq, fits_form, Linear, coefficient, AreParts, Outcome, Fits, Leaves, then_with, computed, same_atom, Each, Gives, computed_gives, same_atom_sound, same_atom_reflexive, coefficient_one, coefficient_past, apart_zero, parts_apart, Tree, same_tree, agree_with, same_parts, with_constant, one_more, StandsAt, HaveOnePlace, IsKeptFor, IsOutcomeFor, PlacesStay}
use Rattle.sm_num.specs.declared.op.Op.TheVariants as op
use Rattle.sm_theory.proofs.LinearAlikeLemmas.{Alike, same_parts_alike, once_reduced, own_coefficients}
use Rattle.sm_theory.proofs.LinearPlaces.{one_thing, place_of, place_or_not}

-- 1 more is kept for 1 more
pub one_more_stands : (trees : List Tree) (f : Linear ℕ) (g : Linear Tree) → IsKeptFor trees f g →
    IsOutcomeFor trees (one_more f) (one_more g)
one_more_stands trees f g keeps =
    subst (λ (c : ℤ). IsOutcomeFor trees (one_more f) (then_with (computed op.Add c (pos 1)) (λ (d : ℤ). Fits (with_constant g d))))
    keeps.stands.constant
    (by (computed op.Add f.constant (pos 1)) (computed_gives op.Add f.constant (pos 1)))
  where
    by : (outcome : Outcome ℤ) → Gives (λ (c : ℤ). (c ≡ f.constant +ℤ pos 1) × IsTrue (fits_form c)) outcome →
        IsOutcomeFor trees (then_with outcome (λ (c : ℤ). Fits (with_constant f c)))
        (then_with outcome (λ (c : ℤ). Fits (with_constant g c)))
    by (Fits c) number =
        record {
          kept = record { parts = keeps.kept.parts; constant = number.1 };
          once = keeps.once;
          stands =
              record {
                kind = keeps.stands.kind;
                constant = refl;
                at_places = keeps.stands.at_places;
                no_other_number = keeps.stands.no_other_number;
                no_other_term = keeps.stands.no_other_term;
              };
        }
    by (Leaves o y z) number = tt

-- parts agree with parts that have the same coefficients
alike_agree : (others ps whole : List (Tree × ℤ)) → Alike same_tree whole others → Each (λ r. coefficient same_tree r.0 whole ≡ r.1) ps →
    agree_with others ps ≡ true
alike_agree others [] whole alike each = refl
alike_agree others (p ∷ ps) whole alike each =
    and_from (int_eq (coefficient same_tree p.0 others) p.1) (agree_with others ps)
    ((Decides-int_eq (coefficient same_tree p.0 others) p.1).1 (sym (alike p.0) ∙ each.0)) (alike_agree others ps whole alike each.1)

-- the coefficient of the first of ascending parts
first_coefficient : (least : ℕ) (p : ℕ × ℤ) (ps : List (ℕ × ℤ)) → AreParts least (p ∷ ps) → coefficient same_atom p.0 (p ∷ ps) ≡ p.1
first_coefficient least p ps parts = coefficient_one same_atom p.0 p ps same_atom_sound (parts_apart p.0 (suc p.0) ps (omega arith) parts.3)
    (same_atom_reflexive p.0)

-- of an atom before the first
before_none : (n least : ℕ) (p : ℕ × ℤ) (ps : List (ℕ × ℤ)) → AreParts least (p ∷ ps) → n < p.0 → coefficient same_atom n (p ∷ ps) ≡ pos 0
before_none n least p ps parts below = apart_zero same_atom n (p ∷ ps)
    (parts_apart n p.0 (p ∷ ps) below (omega arith, parts.1, parts.2, parts.3))

-- neither of two lists with the same coefficients begins later
not_later : (least : ℕ) (p q : ℕ × ℤ) (ps qs : List (ℕ × ℤ)) → AreParts least (p ∷ ps) → AreParts least (q ∷ qs) →
    Alike same_atom (p ∷ ps) (q ∷ qs) → p.0 < q.0 → ⊥
not_later least p q ps qs first second alike below = first.2 (sym (first_coefficient least p ps first) ∙ alike p.0
    ∙ before_none p.0 least q qs second below)

-- ascending parts with the same coefficients are the same list
pub parts_are_one : (least : ℕ) (ps qs : List (ℕ × ℤ)) → AreParts least ps → AreParts least qs → Alike same_atom ps qs → ps ≡ qs
parts_are_one least [] [] first second alike = refl
parts_are_one least [] (q ∷ qs) first second alike = absurd (second.2 (sym (first_coefficient least q qs second) ∙ sym (alike q.0)))
parts_are_one least (p ∷ ps) [] first second alike = absurd (first.2 (sym (first_coefficient least p ps first) ∙ alike p.0))
parts_are_one least (p ∷ ps) (q ∷ qs) first second alike =
    let atoms : p.0 ≡ q.0 =
    ⊎_elim
    (λ (e : nat_lt p.0 q.0 ≡ true). absurd (not_later least p q ps qs first second alike (ltb-true p.0 q.0 e)))
    (λ (e : nat_lt p.0 q.0 ≡ false).
    ⊎_elim
    (λ (f : nat_lt q.0 p.0 ≡ true). absurd (not_later least q p qs ps second first (λ (a : ℕ). sym (alike a)) (ltb-true q.0 p.0 f)))
    (λ (f : nat_lt q.0 p.0 ≡ false). let one = ltb-false p.0 q.0 e in let other = ltb-false q.0 p.0 f in omega arith)
    (cases_Bool (nat_lt q.0 p.0)))
    (cases_Bool (nat_lt p.0 q.0)) in
    let numbers : p.1 ≡ q.1 = sym (first_coefficient least p ps first) ∙ alike p.0 ∙ ap (λ (a : ℕ). coefficient same_atom a (q ∷ qs)) atoms
    ∙ first_coefficient least q qs second in
    let heads : p ≡ q = ap (λ (a : ℕ). (a, p.1)) atoms ∙ ap (λ (z : ℤ). (q.0, z)) numbers in
    let later : AreParts (suc p.0) qs = subst (λ (a : ℕ). AreParts (suc a) qs) (sym atoms) second.3 in
    let rest = parts_are_one (suc p.0) ps qs first.3 later (rest_alike atoms) in
    ap (λ (r : ℕ × ℤ). r ∷ ps) heads ∙ ap (λ rs. q ∷ rs) rest
  where
    rest_alike : p.0 ≡ q.0 → Alike same_atom ps qs
    rest_alike atoms n =
        ⊎_elim
        (λ (e : same_atom n p.0 ≡ true).
        let equal = same_atom_sound n p.0 e in
        apart_zero same_atom n ps (parts_apart n (suc p.0) ps (omega arith) first.3)
        ∙ sym (apart_zero same_atom n qs (parts_apart n (suc q.0) qs (omega arith) second.3)))
        (λ (e : same_atom n p.0 ≡ false).
        sym (coefficient_past same_atom n p ps e) ∙ alike n ∙ coefficient_past same_atom n q qs
        (subst (λ (a : ℕ). same_atom n a ≡ false) atoms e))
        (cases_Bool (same_atom n p.0))

-- kept forms have one list of parts exactly where what they are kept for has the same parts
pub same_parts_stand : (trees : List Tree) (f h : Linear ℕ) (g i : Linear Tree) → IsKeptFor trees f g → IsKeptFor trees h i →
    IsTrue (same_parts g i) ↔ (f.parts ≡ h.parts)
same_parts_stand trees f h g i first second =
    let one = once_reduced g.parts first.once in
    let other = once_reduced i.parts second.once in (
      λ (e : IsTrue (same_parts g i)).
          let alike = same_parts_alike g i one other e in
          parts_are_one 0 f.parts h.parts first.kept.parts second.kept.parts
          (λ (n : ℕ).
          ⊎_elim
          (λ (there : (t : Tree) × StandsAt trees n t).
          first.stands.at_places n there.0 there.1 ∙ alike there.0 ∙ sym (second.stands.at_places n there.0 there.1))
          (λ (none : slice_get trees n ≡ None). first.stands.no_other_number n none ∙ sym (second.stands.no_other_number n none))
          (place_or_not trees n)),
      λ (e : f.parts ≡ h.parts).
          let alike : Alike same_tree g.parts i.parts = λ (t : Tree).
          ⊎_elim
          (λ (there : (n : ℕ) × StandsAt trees n t).
          sym (first.stands.at_places there.0 t there.1) ∙ ap (coefficient same_atom there.0) e ∙ second.stands.at_places there.0 t there.1)
          (λ (never : (n : ℕ) → StandsAt trees n t → ⊥). first.stands.no_other_term t never ∙ sym (second.stands.no_other_term t never))
          (place_of trees t) in
          and_from (agree_with i.parts g.parts) (agree_with g.parts i.parts)
          (alike_agree i.parts g.parts g.parts alike (own_coefficients g.parts one))
          (alike_agree g.parts i.parts i.parts (λ (t : Tree). sym (alike t)) (own_coefficients i.parts other)),
    )

-- what is kept is kept where more terms have places
pub stands_later : (trees later : List Tree) (f : Linear ℕ) (g : Linear Tree) → PlacesStay trees later → HaveOnePlace later →
    IsKeptFor trees f g → IsKeptFor later f g
stands_later trees later f g stay distinct keeps =
    record {
      kept = keeps.kept;
      once = keeps.once;
      stands =
          record {
            kind = keeps.stands.kind;
            constant = keeps.stands.constant;
            at_places = λ (n : ℕ) (t : Tree) (e : StandsAt later n t).
                ⊎_elim
                (λ (there : (u : Tree) × StandsAt trees n u).
                let equal : there.0 ≡ t = one_thing later n there.0 t (stay n there.0 there.1) e in
                keeps.stands.at_places n t (subst (λ (u : Tree). StandsAt trees n u) equal there.1))
                (λ (none : slice_get trees n ≡ None). keeps.stands.no_other_number n none
                ∙ sym (keeps.stands.no_other_term t (nowhere n t e none)))
                (place_or_not trees n);
            no_other_number = λ (n : ℕ) (e : slice_get later n ≡ None).
                ⊎_elim
                (λ (there : (u : Tree) × StandsAt trees n u). absurd (never_both n there.0 (stay n there.0 there.1) e))
                (λ (none : slice_get trees n ≡ None). keeps.stands.no_other_number n none)
                (place_or_not trees n);
            no_other_term = λ (t : Tree) (never : (n : ℕ) → StandsAt later n t → ⊥). keeps.stands.no_other_term t
                (λ (n : ℕ) (e : StandsAt trees n t). never n (stay n t e));
          };
    }
  where
    some_or_none : (t : Tree) → Some t ≡ None → ⊥
    some_or_none t e = absurd cc

    never_both : (n : ℕ) (t : Tree) → StandsAt later n t → slice_get later n ≡ None → ⊥
    never_both n t e none = some_or_none t (sym e ∙ none)

    nowhere : (n : ℕ) (t : Tree) → StandsAt later n t → slice_get trees n ≡ None → (m : ℕ) → StandsAt trees m t → ⊥
    nowhere n t e none m there =
        let one : m ≡ n = distinct m n t (stay m t there) e in
        some_or_none t (sym there ∙ subst (λ (i : ℕ). slice_get trees i ≡ None) (sym one) none)
