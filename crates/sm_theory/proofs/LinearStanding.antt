-- What is computed of forms over numbers is kept for what is computed of the forms over terms for which
-- they are kept.
use Rattle.sm_theory.proofs.Imports.{◌≡◌, ℕ, ℤ, List, refl, subst, Linear, IsKept, Kind, Outcome, Fits, Leaves, combined, combination, can_cancel, eliminated, elimination, tightened, is_contradictory, same_atom, ComeOutAlike, renamed_outcome, Gives, AreAmong, IsReduced, combination_reduced, elimination_reduced, combined_kept, combined_among, eliminated_kept, eliminated_among, Tree, same_tree, StandsAt, HaveOnePlace, StandsFor, IsKeptFor, IsOutcomeFor}
use Rattle.sm_theory.proofs.LinearSameTree.{tree_sound, tree_reflexive}
use Rattle.sm_num.proofs.OverOtherAtoms as over
use Rattle.sm_theory.proofs.LinearPlaces.{IsPlace, term_at, term_at_is, places_rename, keeps_stands, stands_keeps}

module _ (trees : List Tree) (distinct : HaveOnePlace trees) where
  -- what comes out alike at the terms is kept
  outcome_keeps : (first : Outcome (Linear ℕ)) (second : Outcome (Linear Tree)) → Gives IsKept first →
      Gives (λ (h : Linear ℕ). AreAmong (IsPlace trees) h.parts) first →
      Gives (IsReduced same_tree) second → ComeOutAlike same_tree (renamed_outcome (term_at trees) first) second →
      IsOutcomeFor trees first second
  outcome_keeps (Fits f) (Fits g) kept among reduced alike = stands_keeps trees distinct f g
      (record { kept = kept; among = among; reduced = reduced; alike = alike })
  outcome_keeps (Fits f) (Leaves o y z) kept among reduced alike = alike
  outcome_keeps (Leaves o y z) (Fits g) kept among reduced alike = alike
  outcome_keeps (Leaves o y z) (Leaves o' y' z') kept among reduced alike = tt

  -- sums of forms are kept for sums
  pub combined_stands : (f h : Linear ℕ) (g i : Linear Tree) (p q : ℤ) (k : Kind) → IsKeptFor trees f g → IsKeptFor trees h i →
      IsOutcomeFor trees (combined f p h q k) (combination same_tree g p i q k)
  combined_stands f h g i p q k first second =
      let one = keeps_stands trees distinct f g first in
      let other = keeps_stands trees distinct h i second in
      outcome_keeps (combined f p h q k) (combination same_tree g p i q k) (combined_kept f h p q k one.kept other.kept)
      (combined_among (IsPlace trees) f h p q k one.among other.among)
      (combination_reduced same_tree tree_sound tree_reflexive g i p q k one.reduced.parts other.reduced.parts)
      (over.combined_over (IsPlace trees) same_tree tree_sound tree_reflexive (term_at trees)
      (places_rename trees distinct) f h g i p q k one other)

  -- sums of forms in which an atom cancels are kept for sums in which its term cancels
  pub eliminated_stands : (f h : Linear ℕ) (g i : Linear Tree) (n : ℕ) (t : Tree) → StandsAt trees n t → IsKeptFor trees f g →
      IsKeptFor trees h i →
      IsOutcomeFor trees (eliminated f h n) (elimination same_tree g i t)
  eliminated_stands f h g i n t at first second =
      let one = keeps_stands trees distinct f g first in
      let other = keeps_stands trees distinct h i second in
      outcome_keeps (eliminated f h n) (elimination same_tree g i t) (eliminated_kept f h n one.kept other.kept)
      (eliminated_among (IsPlace trees) f h n one.among other.among)
      (elimination_reduced same_tree tree_sound tree_reflexive g i t one.reduced.parts other.reduced.parts)
      (subst (λ (u : Tree). ComeOutAlike same_tree (renamed_outcome (term_at trees) (eliminated f h n)) (elimination same_tree g i u))
      (term_at_is trees n t at)
      (over.eliminated_over (IsPlace trees) same_tree tree_sound tree_reflexive (term_at trees) (places_rename trees distinct) f h g i n
      (t, at) one other))

  -- a tight form is kept for the tight form
  pub tightened_stands : (f : Linear ℕ) (g : Linear Tree) → IsKeptFor trees f g → IsKeptFor trees (tightened f) (tightened g)
  tightened_stands f g keeps =
      stands_keeps trees distinct (tightened f) (tightened g)
      (over.tightened_stands (IsPlace trees) same_tree tree_sound tree_reflexive (term_at trees) (places_rename trees distinct) f g
      (keeps_stands trees distinct f g keeps))

  -- a form that is kept for another is a contradiction exactly where that is
  pub contradictory_stands : (f : Linear ℕ) (g : Linear Tree) → IsKeptFor trees f g → is_contradictory f ≡ is_contradictory g
  contradictory_stands f g keeps =
      over.contradictory_over (IsPlace trees) same_tree tree_sound tree_reflexive (term_at trees) (places_rename trees distinct) f g
      (keeps_stands trees distinct f g keeps)

-- a number cancels where its term does
pub can_cancel_stands : (trees : List Tree) (f h : Linear ℕ) (g i : Linear Tree) (n : ℕ) (t : Tree) → StandsAt trees n t →
    StandsFor trees f g → StandsFor trees h i →
    can_cancel same_atom f h n ≡ can_cancel same_tree g i t
can_cancel_stands trees f h g i n t at first second = rw (first.at_places n t at, second.at_places n t at, first.kind, second.kind) refl
