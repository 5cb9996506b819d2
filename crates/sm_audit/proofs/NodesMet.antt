-- The nodes of a plan are those that were met, and those of what waits.
use Rattle.sm_audit.proofs.Imports.{◌≡◌, ℕ, List, [], ◌∷◌, ◌++◌, length, map, sym, refl, ap, ◌∙◌, arith, append_assoc, append-nil, map-append, Sorts, Tree, Successor, Node, all_nodes, nodes_of, node_in, NodeRow, numbered_at, Cursor, NumberedPlans, below, head, list_of, node_over, plan_over, plans_over, nodes_left, nodes_with, placed_with, PlacedState}
use Rattle.sm_plan.specs.Plans as plain
use Rattle.sm_expand.specs.NumberedPlans.{Over, More}
use Rattle.sm_expand.proofs.PairsLemmas.{plan_is}

module _ (sorts : Sorts) (trees : List Tree) where
  left_append : (xs ys : List PlacedState) → nodes_left sorts trees (xs ++ ys) ≡ nodes_left sorts trees xs ++ nodes_left sorts trees ys
  left_append [] ys = refl
  left_append (x ∷ xs) ys =
      ap (λ (l : List Node). nodes_of (plan_over sorts trees (numbered_at x.cursor)) ++ l) (left_append xs ys)
      ∙ sym (append_assoc (nodes_of (plan_over sorts trees (numbered_at x.cursor))) (nodes_left sorts trees xs) (nodes_left sorts trees ys))

  left_with : (ss : List Successor) (cs : List Cursor) (ps : NumberedPlans) → length ss ≡ length cs → map numbered_at cs ≡ list_of ps →
      nodes_left sorts trees (placed_with ss cs) ≡ all_nodes (plans_over sorts trees ps)
  left_with [] [] Over h e = refl
  left_with [] [] (More p ps) h e = absurd cc
  left_with [] (c ∷ cs) ps h e = absurd cc
  left_with (s ∷ ss) [] ps h e = absurd cc
  left_with (s ∷ ss) (c ∷ cs) Over h e = absurd cc
  left_with (s ∷ ss) (c ∷ cs) (More p ps) h e =
      let fewer : length ss ≡ length cs = omega arith in
      let one : numbered_at c ≡ p = cc in
      let others : map numbered_at cs ≡ list_of ps = cc in
      let rest = left_with ss cs ps fewer others in
      λ i. nodes_of (plan_over sorts trees (one i)) ++ rest i

  -- a node more was met
  pub node_met : (rows new : List NodeRow) (row : NodeRow) (x : PlacedState) (xs later : List PlacedState) (ss : List Successor)
      (cs : List Cursor) → new ≡ rows ++ row ∷ [] →
      node_over sorts trees (head (numbered_at x.cursor)) ≡ node_in sorts trees row → length ss ≡ length cs →
      map numbered_at cs ≡ list_of (below (numbered_at x.cursor)) → later ≡ placed_with ss cs ++ xs →
      nodes_with sorts trees new later ≡ nodes_with sorts trees rows (x ∷ xs)
  node_met rows new row x xs later ss cs put is h e waits =
      let p = numbered_at x.cursor in
      let f = node_in sorts trees in
      let under = all_nodes (plans_over sorts trees (below p)) in
      let others = nodes_left sorts trees xs in
      let all : map f new ≡ map f rows ++ f row ∷ [] = ap (map f) put ∙ map-append f rows (row ∷ []) in
      let left : nodes_left sorts trees later ≡ under ++ others =
      ap (nodes_left sorts trees) waits ∙ left_append (placed_with ss cs) xs
      ∙ ap (λ (l : List Node). l ++ others) (left_with ss cs (below p) h e) in
      let first : nodes_of (plan_over sorts trees p) ≡ f row ∷ under =
      ap nodes_of (plan_is sorts trees p) ∙ ap (λ (n : Node). n ∷ under) is in
      (λ i. all i ++ left i)
      ∙ append_assoc (map f rows) (f row ∷ []) (under ++ others)
      ∙ ap (λ (l : List Node). map f rows ++ (l ++ others)) (sym first)

  -- where nothing waits all were met
  pub all_met : (rows : List NodeRow) (x : PlacedState) (xs : List PlacedState) → xs ≡ [] →
      nodes_with sorts trees rows xs ≡ nodes_with sorts trees [] (x ∷ []) →
      map (node_in sorts trees) rows ≡ nodes_of (plan_over sorts trees (numbered_at x.cursor))
  all_met rows x xs none e =
      sym (append-nil (map (node_in sorts trees) rows))
      ∙ ap (nodes_with sorts trees rows) (sym none) ∙ e
      ∙ append-nil (nodes_of (plan_over sorts trees (numbered_at x.cursor)))
