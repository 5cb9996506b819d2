-- The plan of a one-sided task keeps no formula, so that each table has what it keeps.
use Rattle.sm_houdini.proofs.Imports.{◌≡◌, nat_le, Bool, true, false, if◌then◌else◌, List, [], ◌∷◌, ◌++◌, sym, subst, AllByRecursion, Code, Copy, O, A, B, M, Sorts, Tree, assertion_in, Node, nodes_of, all_nodes, is_over, NumberedNode, NumberedPlan, NumberedPlans, plan_over, plans_over, IsKeepReady, IsPlanReady, ArePlansReady, own_statements, summary_before, whole_plan}
use Rattle.sm_plan.specs.Masks.{set_of}
use Rattle.sm_plan.specs.Nodes as node
use Rattle.sm_plan.specs.Plans as tree
use Rattle.sm_expand.specs.NumberedPlans.{Step, Abs, Fork, Loop, Block, Dead, Ends, At, Over, More, node_over}

-- nodes that fit a state and keep no formula
abbrev IsBare : Node → Type 0
IsBare (node.Step c) = Unit {0}
IsBare (node.Abs c n) = Unit {0}
IsBare (node.Fork c) = Unit {0}
IsBare (node.Loop set keep) = ⊥
IsBare (node.Block counts keep) = ⊥
IsBare node.Dead = Unit {0}
IsBare node.Ends = Unit {0}
IsBare (node.Unfit rule) = ⊥

all_append : (xs ys : List Node) → AllByRecursion IsBare xs → AllByRecursion IsBare ys → AllByRecursion IsBare (xs ++ ys)
all_append [] ys first second = second
all_append (x ∷ xs) ys first second = (first.0, all_append xs ys first.1 second)

all_parts : (xs ys : List Node) → AllByRecursion IsBare (xs ++ ys) → AllByRecursion IsBare xs × AllByRecursion IsBare ys
all_parts [] ys all = (tt, all)
all_parts (x ∷ xs) ys all = let rest = all_parts xs ys all.1 in ((all.0, rest.0), rest.1)

-- such is each node of the plan
summary_bare : (program : Copy → Code) (c : Copy) (p : tree.Plan) → AllByRecursion IsBare (nodes_of p) →
    AllByRecursion IsBare (nodes_of (summary_before program c p))
summary_bare program c p bare = of (is_over (program c))
  where
    of : (b : Bool) → AllByRecursion IsBare (nodes_of (if b then p
        else tree.At (node.Abs c (own_statements (program c))) (tree.More p tree.Over)))
    of true = bare
    of false = (tt, all_append (nodes_of p) [] bare tt)

whole_bare : (program : Copy → Code) → AllByRecursion IsBare (nodes_of (whole_plan program))
whole_bare program =
    summary_bare program O (summary_before program A (summary_before program B (summary_before program M (tree.At node.Ends tree.Over))))
    (summary_bare program A (summary_before program B (summary_before program M (tree.At node.Ends tree.Over)))
    (summary_bare program B (summary_before program M (tree.At node.Ends tree.Over))
    (summary_bare program M (tree.At node.Ends tree.Over) (tt, tt))))

module _ (sorts : Sorts) (trees : List Tree) where
  node_ready : (n : NumberedNode) → IsBare (node_over sorts trees n) → IsKeepReady sorts trees n
  node_ready (Step copy) h = tt
  node_ready (Abs copy n) h = tt
  node_ready (Fork copy) h = tt
  node_ready (Loop set keep) h = absurd (by (nat_le set 15) h)
    where
      by : (b : Bool) → IsBare (if b then node.Loop (set_of set) (assertion_in sorts trees keep) else node.Unfit 4) → ⊥
      by true h = h
      by false h = h
  node_ready (Block counts keep) h = absurd h
  node_ready Dead h = tt
  node_ready Ends h = tt

  mutual
    plan_ready : (p : NumberedPlan) → AllByRecursion IsBare (nodes_of (plan_over sorts trees p)) → IsPlanReady sorts trees p
    plan_ready (At node ps) h = (node_ready node h.0, plans_ready ps h.1)

    plans_ready : (ps : NumberedPlans) → AllByRecursion IsBare (all_nodes (plans_over sorts trees ps)) → ArePlansReady sorts trees ps
    plans_ready Over h = tt
    plans_ready (More p ps) h =
        let parts = all_parts (nodes_of (plan_over sorts trees p)) (all_nodes (plans_over sorts trees ps)) h in
        (plan_ready p parts.0, plans_ready ps parts.1)

  pub whole_ready : (p : NumberedPlan) (program : Copy → Code) → plan_over sorts trees p ≡ whole_plan program → IsPlanReady sorts trees p
  whole_ready p program is =
      plan_ready p (subst (λ (q : tree.Plan). AllByRecursion IsBare (nodes_of q)) (sym is) (whole_bare program))
