-- The labels of the classes of a branch tell which of its terms are equal.
use Rattle.sm_solve.proofs.Imports.{◌≡◌, ℕ, ◌==◌, Option, option_map, None, List, length, slice_get, refl, sym, ap, subst, ◌∙◌, eqb-true, length-map, slice_get-map, Formula, Tree, TableValue, trees_in, tree_at, TermId, are_equal, ClassesValue, setting_of, IsWhole, classes_by, AreLabels, trees_at, numbers_of, equal_is_same}
use Rattle.std.proofs.Common.{Some}
use Rattle.std.proofs.lemmas.Bool.{eq-eqb}
use Rattle.sm_cc.specs.Labels.{AreTermLabels}
use Rattle.sm_lemmas.proofs.Tests.{same_tests}

-- the number at the place of a term
number_at : (trees : List Tree) (terms : List TermId) → trees_at trees (numbers_of terms) ≡ trees → (i : ℕ) (t : Tree) →
    slice_get trees i ≡ Some t → (n : TermId) × (slice_get terms i ≡ Some n) × (tree_at trees n.0 ≡ t)
number_at trees terms are i t at = by (slice_get terms i) refl (sym mapped ∙ ap (λ (ts : List Tree). slice_get ts i) are ∙ at)
  where
    mapped : slice_get (trees_at trees (numbers_of terms)) i ≡ option_map (tree_at trees) (option_map (λ (n : TermId). n.0) (slice_get terms i))
    mapped =
        slice_get-map (tree_at trees) (numbers_of terms) i
        ∙ ap (option_map (tree_at trees)) (slice_get-map (λ (n : TermId). n.0) terms i)

    by : (o : Option TermId) → slice_get terms i ≡ o → option_map (tree_at trees) (option_map (λ (n : TermId). n.0) o) ≡ Some t →
        (n : TermId) × (slice_get terms i ≡ Some n) × (tree_at trees n.0 ≡ t)
    by None none is = let wrong : None ≡ Some t = is in absurd cc
    by (Some n) some is = let same : tree_at trees n.0 ≡ t = cc in (n, some, same)

module _ (table : TableValue) (terms : List TermId) (facts : List Formula) (whole : IsWhole (trees_in table) terms) where
  abbrev trees : List Tree
  trees = trees_in table

  tells : (labels : List ℕ) → AreTermLabels (classes_by table terms facts) labels →
      AreLabels trees (are_equal (setting_of (classes_by table terms facts))) labels
  tells labels told = record {
    count =
        told.count ∙ sym (length-map terms (λ (n : TermId). n.0)) ∙ sym (length-map (numbers_of terms) (tree_at trees))
        ∙ ap length whole.trees_are;
    tell = λ i j l m t u at_t at_u at_l at_m.
        let first = number_at trees terms whole.trees_are i t at_t in
        let second = number_at trees terms whole.trees_are j u at_u in
        let law = told.each i j l m first.0 second.0 first.1 second.1 at_l at_m in
        let s = setting_of (classes_by table terms facts) in
        let same = equal_is_same s (tree_at trees first.0.0) (tree_at trees second.0.0) in
        same_tests (l == m) (are_equal s (tree_at trees first.0.0) (tree_at trees second.0.0)) (λ h. same.1 (law.0 (eqb-true l m h)))
        (λ h. eq-eqb l m (law.1 (same.0 h)))
        ∙ ap (λ (x : Tree). are_equal s x (tree_at trees second.0.0)) first.2
        ∙ ap (are_equal s t) second.2;
  }

  pub labels_of_branch : (v : ClassesValue) → v ≡ classes_by table terms facts → (labels : List ℕ) → AreTermLabels v labels →
      AreLabels (trees_in table) (are_equal (setting_of v)) labels
  labels_of_branch v is labels told =
      subst (λ (w : ClassesValue). AreLabels trees (are_equal (setting_of w)) labels) (sym is)
      (tells labels (subst (λ (w : ClassesValue). AreTermLabels w labels) is told))
