-- Formulas made of rows.
use Rattle.sm_check.proofs.Imports.{◌≡◌, ℕ, ◌+◌, ◌<◌, ◌≤◌, min, nat_le, Bool, true, false, ◌&&◌, length, Some, None, List, [], ◌∷◌, refl, sym, ap, ◌∙◌, subst, arith, ◌⊎◌, ⊎_elim, map, ◌++◌, not, ◌||◌, if◌then◌else◌, nat_tests, same_Some, Copy, by_copy, conj, Assertion, form_nodes, form_depth, set_of, opened_by, where_true, follows, NodeLine, keep_of, node_with, Sorts, Num, tree_sort, HasSort, tree_at, AreTreesSorted, Tree, FormLine, row_form, RowsStand, IsRowReady, AreRowsReady, HaveOneSort, AreNumeric, get_below}
use Rattle.std.proofs.Common.{slice_get}
use Rattle.sm_term.specs.Slots.{all_at_stores}
use Rattle.sm_plan.specs.Copies.{each, has, is_inhabited, subsets}
use Rattle.sm_plan.specs.Limits.{is_kept}
use Rattle.sm_plan.specs.Nodes as plan
use Rattle.sm_plan.specs.Nodes.{Opened}
use Rattle.sm_plan.specs.Statements.{is_long, is_loop}
use Rattle.sm_plan.specs.States.{State}
use Rattle.sm_plan.specs.Successors as next
use Rattle.sm_proof.specs.declared.line.NodeLine.TheVariants as node
use Rattle.sm_check.specs.FormRows.{joined, FormRow}
use Rattle.sm_check.proofs.FormRowsLemmas.{there_too, joined_there}

module _ (sorts : Sorts) (trees : List Tree) (rows : List FormRow) where
  -- the formula of a row, by what it makes
  pub row_made : (forms : List Assertion) (n : ℕ) (row : FormRow) (made : FormLine) (a f : Assertion) → RowsStand sorts trees rows forms →
      slice_get rows n ≡ Some row → row.made ≡ made → slice_get forms n ≡ Some f → row_form sorts trees forms made ≡ Some a → a ≡ f
  row_made forms n row made a f stand there is form e =
      same_Some a f (sym e ∙ ap (row_form sorts trees forms) (sym is) ∙ (stand.each n row f there form).made)

  -- the formula of a row that has two parts, by what it makes of theirs
  pub both_made : (forms : List Assertion) (n p q : ℕ) (row : FormRow) (made : FormLine) (makes : Assertion → Assertion → Assertion)
      (a b f : Assertion) → RowsStand sorts trees rows forms → slice_get rows n ≡ Some row → row.made ≡ made → slice_get forms n ≡ Some f →
      row_form sorts trees forms made ≡ joined forms p q makes → p < length rows → q < length rows →
      ((g : Assertion) → slice_get forms p ≡ Some g → a ≡ g) → ((g : Assertion) → slice_get forms q ≡ Some g → b ≡ g) → makes a b ≡ f
  both_made forms n p q row made makes a b f stand there is form e first second one other =
      let here = get_below rows p first in
      let near = get_below rows q second in
      let g = there_too rows forms p here.0 stand.count here.1 in
      let h = there_too rows forms q near.0 stand.count near.1 in
      ap (λ (x : Assertion). makes x b) (one g.0 g.1)
      ∙ ap (makes g.0) (other h.0 h.1)
      ∙ row_made forms n row made (makes g.0 h.0) f stand there is form (e ∙ joined_there forms p q makes g.0 h.0 g.1 h.1)

  -- what a row is ready for
  pub made_ready : (n : ℕ) (row : FormRow) (made : FormLine) → AreRowsReady sorts trees rows → slice_get rows n ≡ Some row → row.made ≡ made →
      IsRowReady sorts trees n made
  made_ready n row made ready there is = subst (IsRowReady sorts trees n) is (ready n row there)

module _ (sorts : Sorts) (trees : List Tree) (sorted : AreTreesSorted sorts trees) (t u : ℕ) where
  -- two terms of one sort, and two numbers
  pub same_ready : HaveOneSort sorts trees t u →
      ((t < length trees) × (u < length trees))
      × (HasSort sorts (tree_sort sorts (tree_at trees t)) (tree_at trees t) × HasSort sorts (tree_sort sorts (tree_at trees t)) (tree_at trees u))
  same_ready h = ((h.left, h.right), ((sorted t h.left, refl), (sorted u h.right, sym h.same)))

  pub numbers_ready : AreNumeric sorts trees t u →
      ((t < length trees) × (u < length trees)) × (HasSort sorts Num (tree_at trees t) × HasSort sorts Num (tree_at trees u))
  numbers_ready h = ((h.left, h.right), ((sorted t h.left, h.left_number), (sorted u h.right, h.right_number)))

-- a row that is over a limit stands for a formula that isn't kept
pub over_limits : (sorts : Sorts) (trees : List Tree) (rows : List FormRow) (forms : List Assertion) (n : ℕ) (row : FormRow) (f : Assertion) →
    RowsStand sorts trees rows forms → slice_get rows n ≡ Some row → slice_get forms n ≡ Some f →
    ((row.nodes ≤ 200000) × (64 < row.depth)) ⊎ (200000 < row.nodes) → is_kept f ≡ false
unfolding is_kept
over_limits sorts trees rows forms n row f stand there form over =
    let one = stand.each n row f there form in
    ⊎_elim
    (λ (h : (row.nodes ≤ 200000) × (64 < row.depth)).
    let deep : 64 < form_depth f = large (form_depth f) 64 row.depth one.depth h.1 in
    ap (λ (b : Bool). nat_le (form_nodes f) 200000 && b) (not_le (form_depth f) 64 deep) ∙ never_both (nat_le (form_nodes f) 200000))
    (λ (h : 200000 < row.nodes).
    let many : 200000 < form_nodes f = large (form_nodes f) 200000 row.nodes one.nodes h in
    ap (λ (b : Bool). b && nat_le (form_depth f) 64) (not_le (form_nodes f) 200000 many))
    over
  where
    large : (m limit got : ℕ) → got ≡ min m (limit + 1) → limit < got → limit < m
    large m limit got e h = omega arith

    not_le : (m limit : ℕ) → limit < m → nat_le m limit ≡ false
    not_le m limit h = grind (arith, nat_tests)

    never_both : (b : Bool) → (b && false) ≡ false
    never_both true = refl
    never_both false = refl

-- a node opens nothing where the formula that it keeps is over the limits
pub opens_nothing : (f : Assertion) (line : NodeLine) (n k : ℕ) (st : State) → keep_of line ≡ Some n → is_kept f ≡ false →
    opened_by k st (node_with f line) ≡ None
opens_nothing f (node.Step c) n k st keeps over = absurd cc
opens_nothing f (node.Abs c m) n k st keeps over = absurd cc
opens_nothing f (node.Fork c) n k st keeps over = absurd cc
opens_nothing f (node.Loop set keep) n k st keeps over = of_set (nat_le set 15)
  where
    none : (a b : Bool) (q : Opened) → where_true (a && (b && false)) q ≡ None
    none true true q = refl
    none true false q = refl
    none false b q = refl

    of_set : (b : Bool) → opened_by k st (if b then plan.Loop (set_of set) f else plan.Unfit 4) ≡ None
    of_set false = refl
    of_set true =
        let loops = each (λ (c : Copy). not (has (set_of set) c) || is_loop (st.rest c)) in
        let q : Opened = record {
          goals = all_at_stores st.stores (conj f);
          states = map (next.turn_state st k (set_of set) f) (subsets (set_of set)) ++ next.after_loops_state st k (set_of set) f ∷ [];
        } in
        ap (λ (b : Bool). where_true (is_inhabited (set_of set) && (loops && b)) q) over ∙ none (is_inhabited (set_of set)) loops q
opens_nothing f (node.Block k0 k1 k2 k3 keep) n k st keeps over =
    let long = each (λ (c : Copy). is_long (by_copy k0 k1 k2 k3 c) (st.rest c)) in
    let q = follows (next.inner_state st (by_copy k0 k1 k2 k3) f ∷ next.after_block_state st k (by_copy k0 k1 k2 k3) f ∷ []) in
    ap (λ (b : Bool). where_true (long && b) q) over ∙ none long q
  where
    none : (a : Bool) (q : Opened) → where_true (a && false) q ≡ None
    none true q = refl
    none false q = refl
opens_nothing f node.Dead n k st keeps over = absurd cc
opens_nothing f node.End n k st keeps over = absurd cc
