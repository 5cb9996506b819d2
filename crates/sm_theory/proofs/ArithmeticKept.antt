-- What a line of arithmetic adds is sorted, names no later new values, and is added on another branch
-- too on which the facts stand.
use Rattle.sm_theory.proofs.Imports.{◌≡◌, ℕ, ℤ, pos, negsuc, Bool, true, false, not, if◌then◌else◌, Some, None, List, [], ◌∷◌, subst, int_eq, Sorts, Num, Arr, Linear, Kind, Outcome, Fits, Leaves, then_with, computed, can_cancel, elimination, tightened, Gives, gives_both, gives_more, gives_fits, then_gives, AreReduced, AreAmong, IsReduced, combination_reduced, combination_among, elimination_reduced, elimination_among, tightened_among, Tree, HasSort, IsFormSorted, tree_sort, IsBelow, IsFormBelow, same_tree, same_sort_is, Assertion, Yes, No, Ne, Le, Lt, And, Or, BranchFact, Formal, Sum, linear_of, CertificateLine, Same, Apart, Lin, Elim, Tight, followed, formula_at, form_at, is_numeric, compared_forms, form_fact, with_constant, difference, one_more, form_of_comparison, cancelled, arithmetic_adds, EachAtom, IsFactSorted, AreFactsSorted, IsFactBelow, AreFactsBelow, IsLineSorted, IsLineBelow, moved_line, ReadsAlike}
use Rattle.sm_num.specs.declared.op.Op.TheVariants as op
use Rattle.sm_num.specs.declared.kind.Kind.TheVariants as kind
use Rattle.sm_term.specs.Assertions.{Eq}
use Rattle.sm_theory.proofs.FactsLemmas.{fact_is_sorted, fact_is_below, followed_from, formula_stands, form_stands, followed_gives, gives_itself, formula_moves, form_moves}
use Rattle.sm_theory.proofs.LinearSameTree.{tree_sound, tree_reflexive}
use Rattle.sm_theory.proofs.LinearTermsLemmas.{FormAtoms, IsInherited, linear_reduced, linear_atoms, sorted_inherited, below_inherited}
use Rattle.sm_theory.proofs.LinearAlikeLemmas.{once_reduced, reduced_once, tightened_once}
use Rattle.sm_theory.proofs.ArithmeticSound.{form_fact_is, compared_passes}
use Rattle.sm_theory.proofs.EqualityLemmas.{formula_if_from}

-- what is so of each atom, in the words of the definitions
pub atoms_each : (P : Tree → Type 0) (ps : List (Tree × ℤ)) → AreAmong P ps → EachAtom P ps
atoms_each P [] each = tt
atoms_each P (p ∷ ps) each = (each.0, atoms_each P ps each.1)

-- what `EachAtom` says of parts, in the words of `AreAmong`
pub each_atoms : (P : Tree → Type 0) (ps : List (Tree × ℤ)) → EachAtom P ps → AreAmong P ps
each_atoms P [] each = tt
each_atoms P (p ∷ ps) each = (each.0, each_atoms P ps each.1)

module _ (P : Tree → Type 0) where
  -- a form whose atoms are so, each of which stands once
  abbrev pub IsFine : Linear Tree → Type 0
  IsFine f = FormAtoms P f × AreReduced same_tree f.parts

  -- a fact that is such a form
  abbrev pub IsFineForm : BranchFact → Type 0
  IsFineForm k = (h : Linear Tree) × (Sum h ≡ k) × FormAtoms P h × AreReduced same_tree h.parts

  -- of a computed form
  fine_fact : (outcome : Outcome (Linear Tree)) (k : BranchFact) → Gives IsFine outcome → form_fact outcome ≡ Some k → IsFineForm k
  fine_fact outcome k given e =
      let p = form_fact_is outcome k e in
      let fine = gives_fits IsFine outcome p.0 given p.1 in
      (p.0, p.2, fine.0, fine.1)

  module _ (inherited : IsInherited P) where
    difference_fine : (t u : Tree) (kd : Kind) → P t → P u → Gives IsFine (difference t u kd)
    difference_fine t u kd first second =
        gives_both (FormAtoms P) (λ (h : Linear Tree). AreReduced same_tree h.parts) (difference t u kd)
        (combination_among same_tree P (linear_of t) (linear_of u) (pos 1) (negsuc 0) kd (linear_atoms P inherited t first)
        (linear_atoms P inherited u second))
        (then_parts (difference t u kd) (combination_reduced same_tree tree_sound tree_reflexive (linear_of t) (linear_of u) (pos 1)
        (negsuc 0) kd (linear_reduced t).parts (linear_reduced u).parts))
      where
        then_parts : (outcome : Outcome (Linear Tree)) → Gives (IsReduced same_tree) outcome →
            Gives (λ (h : Linear Tree). AreReduced same_tree h.parts) outcome
        then_parts (Fits h) given = given.parts
        then_parts (Leaves operation y z) given = tt

    one_more_fine : (f : Linear Tree) → IsFine f → Gives IsFine (one_more f)
    one_more_fine f fine =
        then_gives (λ (c : ℤ). Unit {0}) IsFine (computed op.Add f.constant (pos 1)) (λ (c : ℤ). Fits (with_constant f c))
        (anything (computed op.Add f.constant (pos 1))) (λ c there. fine)
      where
        anything : (outcome : Outcome ℤ) → Gives (λ (c : ℤ). Unit {0}) outcome
        anything (Fits c) = tt
        anything (Leaves operation y z) = tt

    strict_fine : (t u : Tree) → P t → P u → Gives IsFine (then_with (difference t u kind.Le) one_more)
    strict_fine t u first second = then_gives IsFine IsFine (difference t u kind.Le) one_more
        (difference_fine t u kind.Le first second) one_more_fine

  -- of two forms in which a term cancels
  cancelled_fine : (t : Tree) (f g : Linear Tree) (k : BranchFact) → IsFine f → IsFine g → cancelled t f g ≡ Some k → IsFineForm k
  cancelled_fine t f g k first second e = by (can_cancel same_tree f g t) e
    where
      then_parts : (outcome : Outcome (Linear Tree)) → Gives (IsReduced same_tree) outcome →
          Gives (λ (h : Linear Tree). AreReduced same_tree h.parts) outcome
      then_parts (Fits h) given = given.parts
      then_parts (Leaves operation y z) given = tt

      by : (b : Bool) → (if b then form_fact (elimination same_tree f g t) else None) ≡ Some k → IsFineForm k
      by true e =
          fine_fact (elimination same_tree f g t) k
          (gives_both (FormAtoms P) (λ (h : Linear Tree). AreReduced same_tree h.parts) (elimination same_tree f g t)
          (elimination_among same_tree P f g t first.0 second.0)
          (then_parts (elimination same_tree f g t) (elimination_reduced same_tree tree_sound tree_reflexive f g t first.1 second.1))) e
      by false e = absurd cc

-- a term that is tested to be a number is one
pub number_is : (sorts : Sorts) (t : Tree) → is_numeric sorts t ≡ true → tree_sort sorts t ≡ Num
number_is sorts t e = (same_sort_is (tree_sort sorts t) Num).0 e

-- a fine form is a sorted fact
fine_sorted : (sorts : Sorts) (k : BranchFact) → IsFineForm (HasSort sorts Num) k → IsFactSorted sorts k
fine_sorted sorts k fine = subst (IsFactSorted sorts) fine.1
    (atoms_each (HasSort sorts Num) fine.0.parts fine.2, reduced_once fine.0.parts fine.3)

-- a form that is a sorted fact is fine
sorted_fine : (sorts : Sorts) (f : Linear Tree) → IsFactSorted sorts (Sum f) → IsFine (HasSort sorts Num) f
sorted_fine sorts f sorted = (each_atoms (HasSort sorts Num) f.parts sorted.0, once_reduced f.parts sorted.1)

-- the form of a comparison of sorted terms is sorted
comparison_sorted : (sorts : Sorts) (f : Assertion) (k : BranchFact) → form_of_comparison f ≡ Some k → IsFormSorted sorts f →
    IsFactSorted sorts k
comparison_sorted sorts Yes k e sides = absurd cc
comparison_sorted sorts No k e sides = absurd cc
comparison_sorted sorts (Eq Num t u) k e sides =
    fine_sorted sorts k (fine_fact (HasSort sorts Num) (difference t u kind.Eq) k
    (difference_fine (HasSort sorts Num) (sorted_inherited sorts) t u kind.Eq sides.0 sides.1) e)
comparison_sorted sorts (Eq Arr t u) k e sides = absurd cc
comparison_sorted sorts (Ne sort t u) k e sides = absurd cc
comparison_sorted sorts (Le t u) k e sides =
    fine_sorted sorts k (fine_fact (HasSort sorts Num) (difference t u kind.Le) k
    (difference_fine (HasSort sorts Num) (sorted_inherited sorts) t u kind.Le sides.0 sides.1) e)
comparison_sorted sorts (Lt t u) k e sides =
    fine_sorted sorts k (fine_fact (HasSort sorts Num) (then_with (difference t u kind.Le) one_more) k
    (strict_fine (HasSort sorts Num) (sorted_inherited sorts) t u sides.0 sides.1) e)
comparison_sorted sorts (And p q) k e sides = absurd cc
comparison_sorted sorts (Or p q) k e sides = absurd cc

-- the one thing that is added
some_is : (j k : BranchFact) → Some j ≡ Some k → j ≡ k
some_is j k e = cc

-- what a line of arithmetic adds is sorted
pub arithmetic_sorted : (sorts : Sorts) (facts : List BranchFact) (line : CertificateLine) (k : BranchFact) →
    AreFactsSorted sorts facts → IsLineSorted sorts line → arithmetic_adds sorts facts line ≡ Some k → IsFactSorted sorts k
arithmetic_sorted sorts facts (Same t u) k sorted terms e =
    let p = formula_if_from (compared_forms sorts t u int_eq) (Eq Num t u) k e in
    let passed = compared_passes sorts t u int_eq p.0 in
    subst (IsFactSorted sorts) p.1 ((terms.0, number_is sorts t passed.first), (terms.1, number_is sorts u passed.second))
arithmetic_sorted sorts facts (Apart t u) k sorted terms e =
    let p = formula_if_from (compared_forms sorts t u (λ (y z : ℤ). not (int_eq y z))) (Ne Num t u) k e in
    let passed = compared_passes sorts t u (λ (y z : ℤ). not (int_eq y z)) p.0 in
    subst (IsFactSorted sorts) p.1 ((terms.0, number_is sorts t passed.first), (terms.1, number_is sorts u passed.second))
arithmetic_sorted sorts facts (Lin n) k sorted terms e =
    let p = followed_from (formula_at facts n) form_of_comparison k e in
    comparison_sorted sorts p.0 k p.2 (fact_is_sorted sorts facts n (Formal p.0) sorted (formula_stands facts n p.0 p.1))
arithmetic_sorted sorts facts (Elim i j t) k sorted terms e =
    let p = followed_from (form_at facts i) (λ (f : Linear Tree). followed (form_at facts j) (cancelled t f)) k e in
    let q = followed_from (form_at facts j) (cancelled t p.0) k p.2 in
    fine_sorted sorts k
    (cancelled_fine (HasSort sorts Num) t p.0 q.0 k
    (sorted_fine sorts p.0 (fact_is_sorted sorts facts i (Sum p.0) sorted (form_stands facts i p.0 p.1)))
    (sorted_fine sorts q.0 (fact_is_sorted sorts facts j (Sum q.0) sorted (form_stands facts j q.0 q.1))) q.2)
arithmetic_sorted sorts facts (Tight n) k sorted terms e =
    let p = followed_from (form_at facts n) (λ (f : Linear Tree). Some (Sum (tightened f))) k e in
    let fine = sorted_fine sorts p.0 (fact_is_sorted sorts facts n (Sum p.0) sorted (form_stands facts n p.0 p.1)) in
    fine_sorted sorts k
    (tightened p.0, some_is (Sum (tightened p.0)) k p.2, tightened_among (HasSort sorts Num) p.0 fine.0, tightened_once p.0 fine.1)
arithmetic_sorted sorts facts line k sorted terms e = absurd cc

-- atoms alone: what is so of both sides of a comparison is so of its form's
below_form : (node : ℕ) (outcome : Outcome (Linear Tree)) (k : BranchFact) → Gives (FormAtoms (IsBelow node)) outcome →
    form_fact outcome ≡ Some k → IsFactBelow node k
below_form node outcome k given e =
    let p = form_fact_is outcome k e in
    subst (IsFactBelow node) p.2 (atoms_each (IsBelow node) p.0.parts (gives_fits (FormAtoms (IsBelow node)) outcome p.0 given p.1))

-- a fine form's atoms
fine_below : (node : ℕ) (outcome : Outcome (Linear Tree)) (k : BranchFact) → Gives (IsFine (IsBelow node)) outcome → form_fact outcome ≡ Some k →
    IsFactBelow node k
fine_below node outcome k given e = below_form node outcome k (gives_more (IsFine (IsBelow node)) (FormAtoms (IsBelow node)) outcome given
    (λ (h : Linear Tree) (fine : IsFine (IsBelow node) h). fine.0)) e

comparison_below : (node : ℕ) (f : Assertion) (k : BranchFact) → form_of_comparison f ≡ Some k → IsFormBelow node f → IsFactBelow node k
comparison_below node Yes k e sides = absurd cc
comparison_below node No k e sides = absurd cc
comparison_below node (Eq Num t u) k e sides =
    fine_below node (difference t u kind.Eq) k (difference_fine (IsBelow node) (below_inherited node) t u kind.Eq sides.0 sides.1) e
comparison_below node (Eq Arr t u) k e sides = absurd cc
comparison_below node (Ne sort t u) k e sides = absurd cc
comparison_below node (Le t u) k e sides =
    fine_below node (difference t u kind.Le) k (difference_fine (IsBelow node) (below_inherited node) t u kind.Le sides.0 sides.1) e
comparison_below node (Lt t u) k e sides =
    fine_below node (then_with (difference t u kind.Le) one_more) k
    (strict_fine (IsBelow node) (below_inherited node) t u sides.0 sides.1) e
comparison_below node (And p q) k e sides = absurd cc
comparison_below node (Or p q) k e sides = absurd cc

cancelled_below : (node : ℕ) (t : Tree) (f g : Linear Tree) (k : BranchFact) → IsFactBelow node (Sum f) → IsFactBelow node (Sum g) →
    cancelled t f g ≡ Some k → IsFactBelow node k
cancelled_below node t f g k first second e = by (can_cancel same_tree f g t) e
  where
    by : (b : Bool) → (if b then form_fact (elimination same_tree f g t) else None) ≡ Some k → IsFactBelow node k
    by true e =
        below_form node (elimination same_tree f g t) k
        (elimination_among same_tree (IsBelow node) f g t (each_atoms (IsBelow node) f.parts first)
        (each_atoms (IsBelow node) g.parts second)) e
    by false e = absurd cc

-- what a line of arithmetic adds names no later new value than the facts and the line
pub arithmetic_below : (sorts : Sorts) (node : ℕ) (facts : List BranchFact) (line : CertificateLine) (k : BranchFact) →
    AreFactsBelow node facts → IsLineBelow node line → arithmetic_adds sorts facts line ≡ Some k → IsFactBelow node k
arithmetic_below sorts node facts (Same t u) k below terms e =
    let p = formula_if_from (compared_forms sorts t u int_eq) (Eq Num t u) k e in
    subst (IsFactBelow node) p.1 terms
arithmetic_below sorts node facts (Apart t u) k below terms e =
    let p = formula_if_from (compared_forms sorts t u (λ (y z : ℤ). not (int_eq y z))) (Ne Num t u) k e in
    subst (IsFactBelow node) p.1 terms
arithmetic_below sorts node facts (Lin n) k below terms e =
    let p = followed_from (formula_at facts n) form_of_comparison k e in
    comparison_below node p.0 k p.2 (fact_is_below node facts n (Formal p.0) below (formula_stands facts n p.0 p.1))
arithmetic_below sorts node facts (Elim i j t) k below terms e =
    let p = followed_from (form_at facts i) (λ (f : Linear Tree). followed (form_at facts j) (cancelled t f)) k e in
    let q = followed_from (form_at facts j) (cancelled t p.0) k p.2 in
    cancelled_below node t p.0 q.0 k (fact_is_below node facts i (Sum p.0) below (form_stands facts i p.0 p.1))
    (fact_is_below node facts j (Sum q.0) below (form_stands facts j q.0 q.1)) q.2
arithmetic_below sorts node facts (Tight n) k below terms e =
    let p = followed_from (form_at facts n) (λ (f : Linear Tree). Some (Sum (tightened f))) k e in
    let each = fact_is_below node facts n (Sum p.0) below (form_stands facts n p.0 p.1) in
    subst (IsFactBelow node) (some_is (Sum (tightened p.0)) k p.2)
    (atoms_each (IsBelow node) (tightened p.0).parts (tightened_among (IsBelow node) p.0 (each_atoms (IsBelow node) p.0.parts each)))
arithmetic_below sorts node facts line k below terms e = absurd cc

-- what is added is added on another branch on which the line reads the same
pub arithmetic_moves : (sorts : Sorts) (move : ℕ → ℕ) (facts others : List BranchFact) (line : CertificateLine) (k : BranchFact) →
    ReadsAlike move facts others line → arithmetic_adds sorts facts line ≡ Some k → arithmetic_adds sorts others (moved_line move line) ≡ Some k
arithmetic_moves sorts move facts others (Same t u) k alike e = e
arithmetic_moves sorts move facts others (Apart t u) k alike e = e
arithmetic_moves sorts move facts others (Lin n) k alike e =
    followed_gives (formula_at facts n) (formula_at others (move n)) form_of_comparison form_of_comparison
    (formula_moves move facts others n alike.0.0) (λ (f : Assertion). gives_itself (form_of_comparison f)) k e
arithmetic_moves sorts move facts others (Elim i j t) k alike e =
    followed_gives (form_at facts i) (form_at others (move i)) (λ (f : Linear Tree). followed (form_at facts j) (cancelled t f))
    (λ (f : Linear Tree). followed (form_at others (move j)) (cancelled t f))
    (form_moves move facts others i alike.0.0)
    (λ (f : Linear Tree). followed_gives (form_at facts j) (form_at others (move j)) (cancelled t f) (cancelled t f)
    (form_moves move facts others j alike.0.1.0) (λ (g : Linear Tree). gives_itself (cancelled t f g)))
    k e
arithmetic_moves sorts move facts others (Tight n) k alike e =
    followed_gives (form_at facts n) (form_at others (move n)) (λ (f : Linear Tree). Some (Sum (tightened f)))
    (λ (f : Linear Tree). Some (Sum (tightened f)))
    (form_moves move facts others n alike.0.0) (λ (f : Linear Tree). gives_itself (Some (Sum (tightened f)))) k e
arithmetic_moves sorts move facts others line k alike e = absurd cc
