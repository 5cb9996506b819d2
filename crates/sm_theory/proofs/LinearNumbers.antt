-- The form of a term by numbers is kept for the form of the term.
use Rattle.sm_theory.proofs.Imports.{◌≡◌, ℕ, ℤ, pos, negsuc, ◌+ℤ◌, Bool, true, false, if◌then◌else◌, IsTrue, slice_get, Some, None, List, [], ◌∷◌, refl, sym, ap, subst, ◌∙◌, ⊎_elim, arith, cases_Bool, fits_form, Linear, coefficient, Outcome, Fits, Leaves, formed, scaled, combined, combination, has_no_part, same_atom, same_atom_sound, same_atom_reflexive, AreReduced, coefficient_one, parts_reduced, other_product_alone, Tree, Lit, Start, Havoc, Slot, Cell, Read, Write, Neg, Add, Sub, Mul, Fun, same_tree, constant_form, atom_form, or_atom, scaled_form, product_form, linear_of, linear_by, StandsAt, HaveOnePlace, IsKeptFor, IsOutcomeFor, HasPlaces}
use Rattle.sm_num.specs.declared.kind.Kind.TheVariants as kind
use Rattle.sm_theory.proofs.LinearSameTree.{tree_sound, tree_reflexive}
use Rattle.sm_theory.proofs.LinearAlikeLemmas.{once_reduced}
use Rattle.sm_theory.proofs.LinearTermsLemmas.{scaled_is_combination}
use Rattle.sm_theory.proofs.LinearPlaces.{place_of, place_or_not, term_at_is, places_rename}
use Rattle.sm_theory.proofs.LinearStanding.{combined_stands}

-- a multiple is a sum with nothing
pub scaled_is_combined : (z : ℤ) (f : Linear ℕ) → scaled_form z f ≡ combined (constant_form (pos 0)) (pos 0) f z kind.Eq
scaled_is_combined z f = ap (λ (c : Outcome ℤ). formed (scaled z f.parts) c kind.Eq) (other_product_alone (pos 0) z f.constant)

-- a number stands for itself
constant_stands : (trees : List Tree) (z : ℤ) → IsTrue (fits_form z) → IsKeptFor trees (constant_form z) (constant_form z)
constant_stands trees z fits =
    record {
      kept = record { parts = tt; constant = fits };
      once = tt;
      stands = record {
        kind = refl;
        constant = refl;
        at_places = λ n t e. refl;
        no_other_number = λ n e. refl;
        no_other_term = λ t never.
            refl;
      };
    }

module _ (trees : List Tree) (distinct : HaveOnePlace trees) where
  -- two numbers are the same where their terms are
  same_at : (i j : ℕ) (t u : Tree) → StandsAt trees i t → StandsAt trees j u → same_tree t u ≡ same_atom i j
  same_at i j t u first second =
      rw (sym (term_at_is trees i t first), sym (term_at_is trees j u second)) (places_rename trees distinct i j (t, first) (u, second))

  -- an atom's number stands for it
  pub atom_stands : (n : ℕ) (t : Tree) → StandsAt trees n t → IsKeptFor trees (atom_form n) (atom_form t)
  atom_stands n t at =
      record {
        kept = record { parts = (omega arith, refl, λ (zero_one : pos 1 ≡ pos 0). absurd cc, tt); constant = refl };
        once = (λ (zero_one : pos 1 ≡ pos 0). absurd cc, tt, tt);
        stands =
            record {
              kind = refl;
              constant = refl;
              at_places = λ (m : ℕ) (u : Tree) (e : StandsAt trees m u). ap (λ (b : Bool). if b then pos 1 +ℤ pos 0 else pos 0)
                  (sym (same_at m n u t e at));
              no_other_number = λ (m : ℕ) (e : slice_get trees m ≡ None). ap (λ (b : Bool). if b then pos 1 +ℤ pos 0 else pos 0)
                  (other_number m e);
              no_other_term = λ (u : Tree) (never : (m : ℕ) → StandsAt trees m u → ⊥).
                  ap (λ (b : Bool). if b then pos 1 +ℤ pos 0 else pos 0) (other_term u never);
            };
      }
    where
      other_number : (m : ℕ) → slice_get trees m ≡ None → same_atom m n ≡ false
      other_number m e =
          ⊎_elim
          (λ (s : same_atom m n ≡ true).
          let there = subst (λ (i : ℕ). slice_get trees i ≡ None) (same_atom_sound m n s) e in
          let wrong : Some t ≡ None = sym at ∙ there in
          absurd cc)
          (λ (s : same_atom m n ≡ false). s)
          (cases_Bool (same_atom m n))

      other_term : (u : Tree) → ((m : ℕ) → StandsAt trees m u → ⊥) → same_tree u t ≡ false
      other_term u never =
          ⊎_elim
          (λ (s : same_tree u t ≡ true). absurd (never n (subst (λ (w : Tree). StandsAt trees n w) (sym (tree_sound u t s)) at)))
          (λ (s : same_tree u t ≡ false). s)
          (cases_Bool (same_tree u t))

  -- a form that was computed, or an atom, stands for one
  pub or_atom_stands : (n : ℕ) (t : Tree) (first : Outcome (Linear ℕ)) (second : Outcome (Linear Tree)) → StandsAt trees n t →
      IsOutcomeFor trees first second → IsKeptFor trees (or_atom n first) (or_atom t second)
  or_atom_stands n t (Fits f) (Fits g) at keeps = keeps
  or_atom_stands n t (Fits f) (Leaves o y z) at keeps = absurd keeps
  or_atom_stands n t (Leaves o y z) (Fits g) at keeps = absurd keeps
  or_atom_stands n t (Leaves o y z) (Leaves o' y' z') at keeps = atom_stands n t at

  -- multiples of forms are kept for multiples
  pub scaled_stands : (z : ℤ) (f : Linear ℕ) (g : Linear Tree) → IsKeptFor trees f g →
      IsOutcomeFor trees (scaled_form z f) (scaled_form z g)
  scaled_stands z f g keeps =
      subst (λ (outcome : Outcome (Linear ℕ)). IsOutcomeFor trees outcome (scaled_form z g)) (sym (scaled_is_combined z f))
      (subst (λ (outcome : Outcome (Linear Tree)). IsOutcomeFor trees (combined (constant_form (pos 0)) (pos 0) f z kind.Eq) outcome)
      (sym (scaled_is_combination same_tree z g))
      (combined_stands trees distinct (constant_form (pos 0)) f (constant_form (pos 0)) g (pos 0) z kind.Eq
      (constant_stands trees (pos 0) refl) keeps))

  -- a form without parts stands for one without parts
  no_part_stands : (f : Linear ℕ) (g : Linear Tree) → IsKeptFor trees f g → has_no_part f.parts ≡ has_no_part g.parts
  no_part_stands f g keeps = by f.parts g.parts (parts_reduced 0 f.parts keeps.kept.parts)
      (once_reduced g.parts keeps.once) keeps.stands.at_places keeps.stands.no_other_number keeps.stands.no_other_term
    where
      by : (ps : List (ℕ × ℤ)) (qs : List (Tree × ℤ)) → AreReduced same_atom ps → AreReduced same_tree qs →
          ((n : ℕ) (t : Tree) → StandsAt trees n t → coefficient same_atom n ps ≡ coefficient same_tree t qs) →
          ((n : ℕ) → slice_get trees n ≡ None → coefficient same_atom n ps ≡ pos 0) →
          ((t : Tree) → ((n : ℕ) → StandsAt trees n t → ⊥) → coefficient same_tree t qs ≡ pos 0) → has_no_part ps ≡ has_no_part qs
      by [] [] first second places numbers terms = refl
      by (p ∷ ps) (q ∷ qs) first second places numbers terms = refl
      by (p ∷ ps) [] first second places numbers terms =
          let here = coefficient_one same_atom p.0 p ps same_atom_sound first.1 (same_atom_reflexive p.0) in
          absurd
          (⊎_elim
          (λ (there : (t : Tree) × StandsAt trees p.0 t). first.0 (sym here ∙ places p.0 there.0 there.1))
          (λ (none : slice_get trees p.0 ≡ None). first.0 (sym here ∙ numbers p.0 none))
          (place_or_not trees p.0))
      by [] (q ∷ qs) first second places numbers terms =
          let here = coefficient_one same_tree q.0 q qs tree_sound second.1 (tree_reflexive q.0) in
          absurd
          (⊎_elim
          (λ (there : (n : ℕ) × StandsAt trees n q.0). second.0 (sym here ∙ sym (places there.0 q.0 there.1)))
          (λ (never : (n : ℕ) → StandsAt trees n q.0 → ⊥). second.0 (sym here ∙ terms q.0 never))
          (place_of trees q.0))

  -- products of forms are kept for products
  pub product_stands : (n : ℕ) (t : Tree) (f h : Linear ℕ) (g i : Linear Tree) → StandsAt trees n t → IsKeptFor trees f g →
      IsKeptFor trees h i →
      IsKeptFor trees (product_form n f h) (product_form t g i)
  product_stands n t f h g i at first second =
      by (has_no_part f.parts) (has_no_part g.parts) (has_no_part h.parts) (has_no_part i.parts) (no_part_stands f g first)
      (no_part_stands h i second)
    where
      left : IsOutcomeFor trees (scaled_form f.constant h) (scaled_form g.constant i)
      left = subst (λ (z : ℤ). IsOutcomeFor trees (scaled_form f.constant h) (scaled_form z i)) first.stands.constant
          (scaled_stands f.constant h i second)

      right : IsOutcomeFor trees (scaled_form h.constant f) (scaled_form i.constant g)
      right = subst (λ (z : ℤ). IsOutcomeFor trees (scaled_form h.constant f) (scaled_form z g)) second.stands.constant
          (scaled_stands h.constant f g first)

      by : (b b' c c' : Bool) → b ≡ b' → c ≡ c' →
          IsKeptFor trees (if b then or_atom n (scaled_form f.constant h) else if c then or_atom n
          (scaled_form h.constant f) else atom_form n)
          (if b' then or_atom t (scaled_form g.constant i) else if c' then or_atom t (scaled_form i.constant g) else atom_form t)
      by true true c c' e d = or_atom_stands n t (scaled_form f.constant h) (scaled_form g.constant i) at left
      by false false true true e d = or_atom_stands n t (scaled_form h.constant f) (scaled_form i.constant g) at right
      by false false false false e d = atom_stands n t at
      by true false c c' e d = absurd cc
      by false true c c' e d = absurd cc
      by false false true false e d = absurd cc
      by false false false true e d = absurd cc

  module _ (place : Tree → ℕ) where
    -- a literal
    pub literal_stands : (z : ℤ) → StandsAt trees (place (Lit z)) (Lit z) → IsKeptFor trees (linear_by place (Lit z)) (linear_of (Lit z))
    literal_stands z at = by (fits_form z) refl
      where
        by : (b : Bool) → fits_form z ≡ b → IsKeptFor trees (if b then constant_form z else atom_form (place (Lit z)))
            (if b then constant_form z else atom_form (Lit z))
        by true e = constant_stands trees z e
        by false e = atom_stands (place (Lit z)) (Lit z) at

    -- the form by numbers is kept for the form of the term
    pub linear_stands : (t : Tree) → HasPlaces trees place t → IsKeptFor trees (linear_by place t) (linear_of t)
    linear_stands (Lit z) at = literal_stands z at
    linear_stands (Start x) at = atom_stands (place (Start x)) (Start x) at
    linear_stands (Havoc k c x) at = atom_stands (place (Havoc k c x)) (Havoc k c x) at
    linear_stands (Slot c x) at = atom_stands (place (Slot c x)) (Slot c x) at
    linear_stands Cell at = atom_stands (place Cell) Cell at
    linear_stands (Read a i) at = atom_stands (place (Read a i)) (Read a i) at
    linear_stands (Write a i e) at = atom_stands (place (Write a i e)) (Write a i e) at
    linear_stands (Neg t) at =
        or_atom_stands (place (Neg t)) (Neg t) (scaled_form (negsuc 0) (linear_by place t)) (scaled_form (negsuc 0) (linear_of t)) at.0
        (scaled_stands (negsuc 0) (linear_by place t) (linear_of t) (linear_stands t at.1))
    linear_stands (Add t u) at =
        or_atom_stands (place (Add t u)) (Add t u) (combined (linear_by place t) (pos 1) (linear_by place u) (pos 1) kind.Eq)
        (combination same_tree (linear_of t) (pos 1) (linear_of u) (pos 1) kind.Eq) at.0
        (combined_stands trees distinct (linear_by place t) (linear_by place u) (linear_of t) (linear_of u) (pos 1) (pos 1) kind.Eq
        (linear_stands t at.1) (linear_stands u at.2))
    linear_stands (Sub t u) at =
        or_atom_stands (place (Sub t u)) (Sub t u) (combined (linear_by place t) (pos 1) (linear_by place u) (negsuc 0) kind.Eq)
        (combination same_tree (linear_of t) (pos 1) (linear_of u) (negsuc 0) kind.Eq) at.0
        (combined_stands trees distinct (linear_by place t) (linear_by place u) (linear_of t) (linear_of u) (pos 1) (negsuc 0) kind.Eq
        (linear_stands t at.1) (linear_stands u at.2))
    linear_stands (Mul t u) at = product_stands (place (Mul t u)) (Mul t u) (linear_by place t) (linear_by place u) (linear_of t)
        (linear_of u) at.0 (linear_stands t at.1) (linear_stands u at.2)
    linear_stands (Fun c x args) at = atom_stands (place (Fun c x args)) (Fun c x args) at
