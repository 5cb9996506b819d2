-- A form over numbers stands for a form over terms exactly where, put over the terms at its numbers,
-- it is alike.
use Rattle.sm_theory.proofs.Imports.{◌≡◌, ◌⊎◌, ℕ, zero, suc, ℤ, pos, true, false, IsTrue, slice_get, Option, Some, None, List, [], ◌∷◌, refl, sym, ap, subst, ◌∙◌, ⊎_elim, inl, inr, cases_Bool, fits_form, Linear, coefficient, renamed_form, IsKept, same_atom, AreAlike, Each, same_atom_sound, same_atom_reflexive, not_both, coefficient_past, AreAmong, AreInside, reduced_some, parts_reduced, Tree, Cell, same_tree, same_tree_is, StandsAt, HaveOnePlace, StandsFor, IsKeptFor}
use Rattle.std.specs.Prelude.{unwrap_or}
use Rattle.sm_num.proofs.RenamingLemmas.{renamed_parts, renamed_coefficient, Renames}
use Rattle.sm_num.proofs.OverOtherAtoms as over
use Rattle.sm_theory.proofs.LinearSameTree.{tree_sound, tree_reflexive}
use Rattle.sm_theory.proofs.LinearAlikeLemmas.{once_reduced, reduced_once, own_coefficients}
use Rattle.sm_num.proofs.KeptForms.{coefficient_fits}

-- two things in one place are one
pub one_thing : (trees : List Tree) (n : ℕ) (t u : Tree) → StandsAt trees n t → StandsAt trees n u → t ≡ u
one_thing trees n t u first second = let both : Some t ≡ Some u = sym first ∙ second in ap (λ (o : Option Tree). unwrap_or o t) both

-- a term has a place, or none
pub place_of : (trees : List Tree) (t : Tree) → ((n : ℕ) × StandsAt trees n t) ⊎ ((n : ℕ) → StandsAt trees n t → ⊥)
place_of [] t = inr (λ (n : ℕ) (e : StandsAt [] n t). absurd cc)
place_of (u ∷ us) t =
    ⊎_elim
    (λ (e : same_tree u t ≡ true). inl (0, ap Some (tree_sound u t e)))
    (λ (e : same_tree u t ≡ false).
    ⊎_elim
    (λ (there : (n : ℕ) × StandsAt us n t). inl (suc there.0, there.1))
    (λ (never : (n : ℕ) → StandsAt us n t → ⊥). inr (nowhere e never))
    (place_of us t))
    (cases_Bool (same_tree u t))
  where
    nowhere : same_tree u t ≡ false → ((n : ℕ) → StandsAt us n t → ⊥) → (n : ℕ) → StandsAt (u ∷ us) n t → ⊥
    nowhere other never zero e = not_both (same_tree u t) ((same_tree_is u t).1 (one_thing (u ∷ us) 0 u t refl e)) other
    nowhere other never (suc n) e = never n e

-- a number is a place, or none
pub place_or_not : (trees : List Tree) (n : ℕ) → ((t : Tree) × StandsAt trees n t) ⊎ (slice_get trees n ≡ None)
place_or_not trees n = by (slice_get trees n) refl
  where
    by : (o : Option Tree) → slice_get trees n ≡ o → ((t : Tree) × StandsAt trees n t) ⊎ (slice_get trees n ≡ None)
    by (Some t) e = inl (t, e)
    by None e = inr e

module _ (trees : List Tree) where
  -- a number at which a term stands
  abbrev pub IsPlace : ℕ → Type 0
  IsPlace n = (t : Tree) × StandsAt trees n t

  -- the term at a number
  abbrev pub term_at : ℕ → Tree
  term_at n = unwrap_or (slice_get trees n) Cell

  pub term_at_is : (n : ℕ) (t : Tree) → StandsAt trees n t → term_at n ≡ t
  term_at_is n t e = ap (λ (o : Option Tree). unwrap_or o Cell) e

  -- each place has its own term
  pub places_rename : HaveOnePlace trees → Renames IsPlace same_atom same_tree term_at
  places_rename distinct i j first second =
      ⊎_elim
      (λ (e : same_atom i j ≡ true).
      ap (λ (n : ℕ). same_tree (term_at i) (term_at n)) (sym (same_atom_sound i j e)) ∙ tree_reflexive (term_at i) ∙ sym e)
      (λ (e : same_atom i j ≡ false).
      ⊎_elim
      (λ (t : same_tree (term_at i) (term_at j) ≡ true).
      let equal : first.0 ≡ second.0 = sym (term_at_is i first.0 first.1) ∙ tree_sound (term_at i) (term_at j) t
      ∙ term_at_is j second.0 second.1 in
      let one : i ≡ j = distinct i j second.0 (subst (λ (u : Tree). StandsAt trees i u) equal first.1) second.1 in
      absurd (not_both (same_atom i j) (subst (λ (n : ℕ). same_atom i n ≡ true) one (same_atom_reflexive i)) e))
      (λ (f : same_tree (term_at i) (term_at j) ≡ false). f ∙ sym e)
      (cases_Bool (same_tree (term_at i) (term_at j))))
      (cases_Bool (same_atom i j))

  -- parts put over the terms at their numbers
  abbrev pub at_terms : List (ℕ × ℤ) → List (Tree × ℤ)
  at_terms ps = renamed_parts term_at ps

  -- a term that has no place has no coefficient there
  elsewhere_none : (t : Tree) → ((n : ℕ) → StandsAt trees n t → ⊥) → (ps : List (ℕ × ℤ)) → AreAmong IsPlace ps →
      coefficient same_tree t (at_terms ps) ≡ pos 0
  elsewhere_none t never [] places = refl
  elsewhere_none t never (p ∷ ps) places =
      coefficient_past same_tree t (term_at p.0, p.1) (at_terms ps)
      (⊎_elim
      (λ (e : same_tree t (term_at p.0) ≡ true).
      absurd (never p.0 (subst (λ (u : Tree). StandsAt trees p.0 u)
      (sym (tree_sound t (term_at p.0) e ∙ term_at_is p.0 places.0.0 places.0.1)) places.0.1)))
      (λ (e : same_tree t (term_at p.0) ≡ false). e)
      (cases_Bool (same_tree t (term_at p.0))))
      ∙ elsewhere_none t never ps places.1

  -- a number that is no place has no coefficient
  past_none : (n : ℕ) → slice_get trees n ≡ None → (ps : List (ℕ × ℤ)) → AreAmong IsPlace ps → coefficient same_atom n ps ≡ pos 0
  past_none n none [] places = refl
  past_none n none (p ∷ ps) places =
      coefficient_past same_atom n p ps
      (⊎_elim
      (λ (e : same_atom n p.0 ≡ true).
      let there = subst (λ (x : ℕ). slice_get trees x ≡ None) (same_atom_sound n p.0 e) none in
      let wrong : Some places.0.0 ≡ None = sym places.0.1 ∙ there in
      absurd cc)
      (λ (e : same_atom n p.0 ≡ false). e)
      (cases_Bool (same_atom n p.0)))
      ∙ past_none n none ps places.1

  module _ (distinct : HaveOnePlace trees) where
    -- the coefficient at a place is that of its term
    pub at_terms_coefficient : (n : ℕ) (t : Tree) → StandsAt trees n t → (ps : List (ℕ × ℤ)) → AreAmong IsPlace ps →
        coefficient same_tree t (at_terms ps) ≡ coefficient same_atom n ps
    at_terms_coefficient n t e ps places =
        subst (λ (u : Tree). coefficient same_tree u (at_terms ps) ≡ coefficient same_atom n ps) (term_at_is n t e)
        (renamed_coefficient IsPlace same_atom same_tree term_at (places_rename distinct) n ps (t, e) places)

    -- what stands for a form is alike at the terms
    pub stands_alike : (f : Linear ℕ) (g : Linear Tree) → AreAmong IsPlace f.parts → StandsFor trees f g →
        AreAlike same_tree (renamed_form term_at f) g
    stands_alike f g places stands =
        record {
          kind = stands.kind;
          constant = stands.constant;
          coefficients = λ (t : Tree).
              ⊎_elim
              (λ (there : (n : ℕ) × StandsAt trees n t). at_terms_coefficient there.0 t there.1 f.parts places
              ∙ stands.at_places there.0 t there.1)
              (λ (never : (n : ℕ) → StandsAt trees n t → ⊥). elsewhere_none t never f.parts places ∙ sym (stands.no_other_term t never))
              (place_of trees t);
        }

    -- a form that is alike with another at the terms stands for it
    pub alike_stands : (f : Linear ℕ) (g : Linear Tree) → AreAmong IsPlace f.parts → AreAlike same_tree (renamed_form term_at f) g →
        StandsFor trees f g
    alike_stands f g places alike =
        record {
          kind = alike.kind;
          constant = alike.constant;
          at_places = λ (n : ℕ) (t : Tree) (e : StandsAt trees n t). sym (at_terms_coefficient n t e f.parts places) ∙ alike.coefficients t;
          no_other_number = λ (n : ℕ) (e : slice_get trees n ≡ None). past_none n e f.parts places;
          no_other_term = λ (t : Tree) (never : (n : ℕ) → StandsAt trees n t → ⊥). sym (alike.coefficients t)
              ∙ elsewhere_none t never f.parts places;
        }

  -- the atoms of a kept form that stands for another are places
  pub atoms_are_places : (f : Linear ℕ) (g : Linear Tree) → IsKept f → StandsFor trees f g → AreAmong IsPlace f.parts
  atoms_are_places f g kept stands = each f.parts (reduced_some same_atom same_atom_sound same_atom_reflexive f.parts
      (parts_reduced 0 f.parts kept.parts))
    where
      each : (ps : List (ℕ × ℤ)) → Each (λ r. coefficient same_atom r.0 f.parts ≡ pos 0 → ⊥) ps → AreAmong IsPlace ps
      each [] some = tt
      each (p ∷ ps) some = (
        ⊎_elim (λ (there : (t : Tree) × StandsAt trees p.0 t). there)
            (λ (none : slice_get trees p.0 ≡ None). absurd (some.0 (stands.no_other_number p.0 none)))
            (place_or_not trees p.0),
        each ps some.1,
      )

module _ (trees : List Tree) (distinct : HaveOnePlace trees) where
  -- numbers of terms stand for the terms
  abbrev pub Stands : Linear ℕ → Linear Tree → Type 0
  Stands f g = over.StandsFor (IsPlace trees) same_tree (term_at trees) f g

  -- a coefficient of what a kept form stands for is in the range
  term_fits : (f : Linear ℕ) (g : Linear Tree) → IsKeptFor trees f g → (t : Tree) → IsTrue (fits_form (coefficient same_tree t g.parts))
  term_fits f g keeps t =
      ⊎_elim
      (λ (there : (n : ℕ) × StandsAt trees n t).
      subst (λ (z : ℤ). IsTrue (fits_form z)) (keeps.stands.at_places there.0 t there.1)
      (coefficient_fits there.0 0 f.parts keeps.kept.parts))
      (λ (never : (n : ℕ) → StandsAt trees n t → ⊥). subst (λ (z : ℤ). IsTrue (fits_form z))
      (sym (keeps.stands.no_other_term t never)) refl)
      (place_of trees t)

  -- a form that is kept stands for the other
  pub keeps_stands : (f : Linear ℕ) (g : Linear Tree) → IsKeptFor trees f g → Stands f g
  keeps_stands f g keeps =
      let places = atoms_are_places trees f g keeps.kept keeps.stands in
      let reduced = once_reduced g.parts keeps.once in
      record {
        kept = keeps.kept;
        among = places;
        reduced =
            record {
              parts = reduced;
              numbers = each g.parts (own_coefficients g.parts reduced);
              constant = subst (λ (z : ℤ). IsTrue (fits_form z)) keeps.stands.constant keeps.kept.constant;
            };
        alike = stands_alike trees distinct f g places keeps.stands;
      }
    where
      each : (ps : List (Tree × ℤ)) → Each (λ r. coefficient same_tree r.0 g.parts ≡ r.1) ps → AreInside ps
      each [] own = tt
      each (p ∷ ps) own = (subst (λ (z : ℤ). IsTrue (fits_form z)) own.0 (term_fits f g keeps p.0), each ps own.1)

  -- a form that stands for another is kept for it
  pub stands_keeps : (f : Linear ℕ) (g : Linear Tree) → Stands f g → IsKeptFor trees f g
  stands_keeps f g stands =
      record {
        kept = stands.kept;
        once = reduced_once g.parts stands.reduced.parts;
        stands = alike_stands trees distinct f g stands.among
            stands.alike;
      }
