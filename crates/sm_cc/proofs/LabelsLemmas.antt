-- The labels of exact classes tell the classes, of places and of the terms at them.
use Rattle.sm_cc.proofs.Imports.{◌≡◌, ℕ, zero, suc, ◌<◌, ◌==◌, [], ◌∷◌, arith, IsTrue, Some, None, Option, List, length, map, slice_get, refl, sym, ap, subst, ◌∙◌, eqb-true, eq-eqb, length-map, slice_get-map, slice_get-get_or, slice_get_within, Tree, trees_in, tree_at, AreBefore, TermId, AreClasses, if_there, Same, SamePlaces, are_together, board_of, IsExact, AreLabels, AreTermLabels, Placed, place_at, place_of, ClassesValue, setting_of, there_among}
use Rattle.std.proofs.Common.{option_map}
use Rattle.sm_cc.specs.Closures.{Closure, Equation}
use Rattle.sm_cc.specs.LabelsAt.{label_at}
use Rattle.sm_cc.specs.Positions.{Positions}
use Rattle.sm_cc.proofs.ClassesLemmas.{same_of_places}
use Rattle.sm_cc.proofs.StandingLemmas.{among_there}
use Rattle.sm_cc.proofs.PlacesLemmas.{exact_same}

-- the equation whose right side stands at a place
pub right_at : (roots : List Equation) (i l : ℕ) → slice_get (map (λ (e : Equation). e.right) roots) i ≡ Some l →
    (r : Equation) × (slice_get roots i ≡ Some r) × (r.right ≡ l)
right_at roots i l at = by (slice_get roots i) refl (sym (slice_get-map (λ (e : Equation). e.right) roots i) ∙ at)
  where
    by : (o : Option Equation) → slice_get roots i ≡ o → option_map (λ (e : Equation). e.right) o ≡ Some l →
        (r : Equation) × (slice_get roots i ≡ Some r) × (r.right ≡ l)
    by None none is = let wrong : None ≡ Some l = is in absurd cc
    by (Some r) some is = (r, some, cc)

-- two places are together where their equations have one right side
pub together_by : (roots : List Equation) (i j : ℕ) (r s : Equation) → slice_get roots i ≡ Some r → slice_get roots j ≡ Some s →
    are_together roots i j ≡ (r.right == s.right)
together_by roots i j r s first second =
    ap (λ (o : Option Equation). if_there o (λ (x : Equation). if_there (slice_get roots j) (λ (y : Equation). x.right == y.right))) first
    ∙ ap (λ (o : Option Equation). if_there o (λ (y : Equation). r.right == y.right)) second

-- one label, one class
pub labels_tell : (c : Closure) → IsExact c → (labels : List ℕ) → labels ≡ map (λ (e : Equation). e.right) c.roots.items →
    AreLabels (board_of c) labels
labels_tell c exact labels are = record {
  count = ap length are ∙ length-map c.roots.items (λ (e : Equation). e.right) ∙ exact.sound.count;
  each = λ i j l m at_i at_j.
      let r = right_at c.roots.items i l (sym (ap (λ (ls : List ℕ). slice_get ls i) are) ∙ at_i) in
      let s = right_at c.roots.items j m (sym (ap (λ (ls : List ℕ). slice_get ls j) are) ∙ at_j) in
      let says = together_by c.roots.items i j r.0 s.0 r.1 s.1 in
      let law = exact_same c exact i j (are_together c.roots.items i j) refl in (
        λ (e : l ≡ m). law.0 (says ∙ eq-eqb r.0.right s.0.right (r.2 ∙ e ∙ sym s.2)),
        λ (same : SamePlaces (board_of c) i j). sym r.2 ∙ eqb-true r.0.right s.0.right (sym says ∙ law.1 same) ∙ s.2,
      );
}

module _ (v : ClassesValue) (positions : Positions) (places : Placed) (are : AreClasses v positions places)
    (before : AreBefore (length (trees_in v.table)) v.terms) where
  abbrev tree : TermId → Tree
  tree t = tree_at (trees_in v.table) t.0

  -- a term of the list is one of the table, and its place is there
  pub inside : (ts : List TermId) → AreBefore (length (trees_in v.table)) ts → (i : ℕ) (t : TermId) → slice_get ts i ≡ Some t →
      t.0 < length (trees_in v.table)
  inside [] all i t at = let wrong : None ≡ Some t = at in absurd cc
  inside (u ∷ us) all zero t at =
      let same : u ≡ t = cc in subst (λ (w : TermId). w.0 < length (trees_in v.table)) same all.0
  inside (u ∷ us) all (suc i) t at = inside us all.1 i t at

  pub stands : (i : ℕ) (t : TermId) → slice_get v.terms i ≡ Some t → place_at positions t.0 < length places.board.rows
  stands i t at =
      let terms = (setting_of v).terms in
      let is : slice_get terms i ≡ Some (tree t) =
      slice_get-map (λ (w : TermId). tree_at (trees_in v.table) w.0) v.terms i ∙ ap (option_map (λ (w : TermId). tree w)) at in
      let there = slice_get_within terms (place_of terms (tree t)) (tree t) (among_there terms (tree t) (there_among terms i (tree t) is)) in
      let place = are.positions_tell.places t.0 (inside v.terms before i t at) in
      let count = are.rows_stand.count in
      omega arith

  -- the label at a place that is there
  label_there : (labels : List ℕ) → AreLabels places.board labels → (i : ℕ) (t : TermId) → slice_get v.terms i ≡ Some t →
      slice_get labels (place_at positions t.0) ≡ Some (label_at labels (place_at positions t.0))
  label_there labels told i t at =
      let below = stands i t at in
      let count = told.count in
      slice_get-get_or labels (place_at positions t.0) (place_at positions t.0) (omega arith)

  -- so the labels of terms tell the classes of terms
  pub term_labels_tell : (labels list : List ℕ) → AreLabels places.board labels →
      list ≡ map (λ (t : TermId). label_at labels (place_at positions t.0)) v.terms → AreTermLabels v list
  term_labels_tell labels list told are_list = record {
    count = ap length are_list ∙ length-map v.terms (λ (t : TermId). label_at labels (place_at positions t.0));
    each = λ i j l m t u at_t at_u at_i at_j.
        let first = label_is list l i t at_t at_i in
        let second = label_is list m j u at_u at_j in
        let law = told.each (place_at positions t.0) (place_at positions u.0) l m first second in
        let r = l == m in
        let says = same_of_places v positions places are t u (inside v.terms before i t at_t) (inside v.terms before j u at_u) r
        (place_at positions t.0) (place_at positions u.0) refl refl (
          λ (h : IsTrue r). law.0 (eqb-true l m h),
          λ (same : SamePlaces places.board (place_at positions t.0) (place_at positions u.0)).
              eq-eqb l m (law.1 same),
        ) in
        (λ (e : l ≡ m). says.0 (eq-eqb l m e), λ (same : Same (setting_of v) (tree t) (tree u)). eqb-true l m (says.1 same));
  }
    where
      label_is : (ls : List ℕ) (l i : ℕ) (t : TermId) → slice_get v.terms i ≡ Some t → slice_get list i ≡ Some l →
          slice_get labels (place_at positions t.0) ≡ Some l
      label_is ls l i t at is =
          let mapped = slice_get-map (λ (w : TermId). label_at labels (place_at positions w.0)) v.terms i
          ∙ ap (option_map (λ (w : TermId). label_at labels (place_at positions w.0))) at in
          label_there labels told i t at ∙ sym mapped ∙ sym (ap (λ (ls : List ℕ). slice_get ls i) are_list) ∙ is
