-- A node that fails at its state.
use Rattle.sm_expand.proofs.Imports.{◌≡◌, ℕ, Some, None, Err, List, length, map, sym, ap, ◌∙◌, length-map, Sorts, Tree, Node, opened_by, rule_of, Wrong, count, expand, State, NumberedPlan, At, node_over, plan_over, plans_over, head, below, list_of, IsKeepReady, IsPlanReady, numbered_at}
use Rattle.sm_plan.specs.Nodes as node
use Rattle.sm_plan.specs.Plans as plain
use Rattle.sm_expand.specs.Cursors.{Cursor}
use Rattle.sm_expand.proofs.PairsLemmas.{plan_is, counted, closed_fails, unfitting_fails}

-- the first node's formula is ready
pub head_ready : (sorts : Sorts) (trees : List Tree) (n : NumberedPlan) → IsPlanReady sorts trees n → IsKeepReady sorts trees (head n)
head_ready sorts trees (At m ps) r = r.0

module _ (sorts : Sorts) (trees : List Tree) (k : ℕ) (st : State) (n : NumberedPlan) (rule : ℕ)
    (is : rule ≡ rule_of (node_over sorts trees (head n))) where
  abbrev here : Node
  here = node_over sorts trees (head n)

  told : expand k st (plain.At here (plans_over sorts trees (below n))) ≡ Err (Wrong k (rule_of here)) →
      expand k st (plan_over sorts trees n) ≡ Err (Wrong k rule)
  told h = ap (expand k st) (plan_is sorts trees n) ∙ h ∙ ap (λ (r : ℕ). Err (Wrong k r)) (sym is)

  -- it opens nothing
  pub none_opened : opened_by k st here ≡ None → expand k st (plan_over sorts trees n) ≡ Err (Wrong k rule)
  none_opened e = told (closed_fails k st here (plans_over sorts trees (below n)) e)

  -- it has no row
  pub no_row : (unfit : ℕ) × (here ≡ node.Unfit unfit) → expand k st (plan_over sorts trees n) ≡ Err (Wrong k rule)
  no_row h = none_opened (ap (opened_by k st) h.1)

  -- it opens other states than it has plans for
  pub other_states : (q : node.Opened) (cs : List Cursor) (m : ℕ) → opened_by k st here ≡ Some q → map numbered_at cs ≡ list_of (below n) →
      length q.states ≡ m → (length cs ≡ m → ⊥) → expand k st (plan_over sorts trees n) ≡ Err (Wrong k rule)
  other_states q cs m e plans states differ =
      let many : length cs ≡ count (plans_over sorts trees (below n)) =
      sym (length-map cs numbered_at) ∙ ap length plans ∙ sym (counted sorts trees (below n)) in
      told (unfitting_fails k st here (plans_over sorts trees (below n)) q e
      (λ (same : count (plans_over sorts trees (below n)) ≡ length q.states). differ (many ∙ same ∙ states)))
