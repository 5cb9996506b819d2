-- The lines of the steps that explain places explain the terms at these.
use Rattle.sm_cc.proofs.Imports.{◌≡◌, ℕ, ◌<◌, List, [], ◌∷◌, ◌++◌, map, length, slice_get, Option, Some, refl, sym, ap, ◌∙◌, subst, arith, map-append, length-map, slice_get-get_or, Sorts, Tree, Assertion, Eq, tree_sort, IsSorted, TableValue, trees_in, sorts_in, tree_at, TermId, AreTreesSorted, BranchFact, Formal, CertificateLine, line_in, CertLine, Step, Placed, Same, SamePlaces, place_of, place_at, ExplainPlaces, Explain, StandAt, added_by, AreStepsIn, step_line, known_fact, ClassesValue, setting_of, equation_of, placed_for, AreClasses}
use Rattle.sm_cc.specs.Log.{Known, Equal, Unequal}
use Rattle.sm_cc.specs.Rows.{Row}
use Rattle.sm_cc.specs.Positions.{Positions}
use Rattle.sm_cc.specs.Views.{trees_of, numbers_of}
use Rattle.sm_cc.proofs.StandingLemmas.{place_found}
use Rattle.sm_cc.proofs.TermsOfPlaces.{same_told}
use Rattle.sm_cc.proofs.InsideLemmas.{AreInside, steps_inside, each_tree, each_term}
use Rattle.sm_cc.proofs.GivenLemmas.{given_inside, given_told}
use Rattle.sm_cc.proofs.StepsLemmas.{lines_add, first_behind}

module _ (v : ClassesValue) (positions : Positions) (places : Placed) (are : AreClasses v positions places) where
  abbrev tree : TermId → Tree
  tree t = tree_at (trees_in v.table) t.0

  abbrev terms : List Tree
  terms = (setting_of v).terms

  abbrev rows : List Row
  rows = places.board.rows

  abbrev sorts : Sorts
  sorts = sorts_in v.table

  -- places are in one class where their terms are
  pub places_of_same : (t u : TermId) → t.0 < length (trees_in v.table) → u.0 < length (trees_in v.table) → (i j : ℕ) →
      i ≡ place_at positions t.0 → j ≡ place_at positions u.0 → Same (setting_of v) (tree t) (tree u) → SamePlaces places.board i j
  places_of_same t u h g i j e f same =
      let law = same_told sorts terms (setting_of v).given rows are.rows_stand (tree t) (tree u) in
      let left = e ∙ are.positions_tell.places t.0 h in
      let right = f ∙ are.positions_tell.places u.0 g in
      let here = subst (λ (p : Placed). SamePlaces p.board (place_of terms (tree t)) (place_of terms (tree u)))
      (sym are.given_of_both) (law.0 same) in
      let there = subst (λ (n : ℕ). SamePlaces places.board n (place_of terms (tree u))) (sym left) here in
      subst (λ (n : ℕ). SamePlaces places.board i n) (sym right) there

  -- the steps over the places of what is given
  stated : (start : ℕ) (steps : List Step) (i j : ℕ) → ExplainPlaces places start steps i j →
      ExplainPlaces (placed_for v rows) start steps i j
  stated start steps i j ex = subst (λ (p : Placed). ExplainPlaces p start steps i j) are.given_of_both ex

  -- steps are of places that are there
  pub steps_there : (start : ℕ) (steps : List Step) (i j : ℕ) → ExplainPlaces places start steps i j → AreStepsIn (length terms) steps
  steps_there start steps i j ex =
      let count = are.rows_stand.count in
      subst (λ (n : ℕ). AreStepsIn n steps) count
      (steps_inside (placed_for v rows) start steps (stated start steps i j ex).follow
      (λ n k d. subst (λ (m : ℕ). AreInside m k) (sym count) (given_inside v rows are.of_two_terms n k d)))

  -- the places of steps are below the number of terms
  pub steps_in : (start : ℕ) (steps : List Step) (i j : ℕ) → ExplainPlaces places start steps i j → AreStepsIn (length v.terms) steps
  steps_in start steps i j ex =
      subst (λ (n : ℕ). AreStepsIn n steps) (length-map v.terms (λ (t : TermId). tree t)) (steps_there start steps i j ex)

  -- the term at a place that is there
  at_place : (t : Tree) (i : ℕ) → i ≡ place_of terms t → i < length terms → tree_at terms i ≡ t
  at_place t i e h = place_found terms t (tree_at terms i) (ap (slice_get terms) (sym e) ∙ slice_get-get_or terms i _ h)

  -- the lines of the steps add facts, the last of which is the equation
  pub lines_explain : AreTreesSorted sorts (trees_in v.table) → (t u : TermId) → t.0 < length (trees_in v.table) →
      u.0 < length (trees_in v.table) →
      (i j : ℕ) → i ≡ place_at positions t.0 → j ≡ place_at positions u.0 → (start : ℕ) (steps : List Step) →
      ExplainPlaces places start steps i j → (lines : List CertLine) →
      map (line_in (trees_in v.table)) lines ≡ map (step_line (trees_of (trees_in v.table) v.terms)) steps →
      Explain sorts (numbers_of v) (setting_of v).given start (map (line_in (trees_in v.table)) lines) (equation_of v.table t u)
  lines_explain all_sorted t u h g i j e f start steps ex lines made = λ facts long stand.
      let good = stated start steps i j ex in
      let sorted = each_term (IsSorted sorts) (trees_in v.table) (each_tree (IsSorted sorts) tt (trees_in v.table) all_sorted) v.terms in
      let told = given_told v rows facts stand are.of_two_terms in
      let fact = λ (s : Step). known_fact sorts terms s.known in
      let add = lines_add sorts terms (placed_for v rows) are.rows_stand sorted facts start long told steps good.follow in
      let here : slice_get steps (length good.before) ≡ Some good.last =
      ap (λ (l : List Step). slice_get l (length good.before)) good.ends ∙ first_behind good.before good.last [] in
      let there = subst (AreInside (length terms)) good.told (steps_there start steps i j ex (length good.before) good.last here) in
      let left = at_place (tree t) i (e ∙ are.positions_tell.places t.0 h) there.0 in
      let right = at_place (tree u) j (f ∙ are.positions_tell.places u.0 g) there.1 in
      let last : fact good.last ≡ Formal (equation_of v.table t u) =
      ap (known_fact sorts terms) good.told
      ∙ ap (λ (x : Tree). Formal (Eq (tree_sort sorts x) x (tree_at terms j))) left
      ∙ ap (λ (x : Tree). Formal (Eq (tree_sort sorts (tree t)) (tree t) x)) right in (
        map fact good.before,
        ap (added_by sorts facts) made
            ∙ add
            ∙ ap (λ (l : List Step). Some (map fact l)) good.ends
            ∙ ap (λ (l : List BranchFact). Some l) (map-append fact good.before (good.last ∷ []))
            ∙ ap (λ (k : BranchFact). Some (map fact good.before ++ k ∷ [])) last,
      )
