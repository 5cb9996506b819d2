-- A plan that is writable is underway where its task's start waits, and nothing is written.
use Rattle.sm_write.proofs.Imports.{◌≡◌, ℕ, ◌<◌, ◌^◌, nat_le, Bool, true, false, if◌then◌else◌, Some, None, List, [], ◌∷◌, ◌++◌, length, map, refl, sym, ap, ◌∙◌, subst, arith, Copy, copy_of, Parts, sort_of, task_of, Sorts, Assertion, assertion_in, TableValue, trees_in, sorts_in, TermId, ExtendsTable, Tree, Certificate, certificate_in, CertTree, set_of, nodes_of, all_nodes, IsTaskSorted, IsNodeSorted, start_state, state_in, start_progress, Subject, subject_of, NumberedNode, NumberedPlan, NumberedPlans, of_copy_or, node_over, plan_over, plans_over, IsKeepReady, IsPlanReady, ArePlansReady, numbered_at, plan_stays, PlacedState, AreTreesWithin, IsUnderway, IsFresh, AreWaiting, IsWritable, WriterValue, Stands, AreSeenNamed, Names, AreNames}
use Rattle.sm_plan.specs.Nodes as plain
use Rattle.sm_plan.specs.Nodes.{Node}
use Rattle.sm_plan.proofs.NodeSorted.{node_sorted}
use Rattle.sm_plan.proofs.SortedStates.{start_sorted}
use Rattle.sm_expand.specs.NumberedPlans.{Step, Abs, Fork, Loop, Block, Dead, Ends, At, Over, More}
use Rattle.sm_write.proofs.ReadyPlans.{AreNodesSorted, writable_ready}
use Rattle.sm_write.proofs.TreesStay.{trees_stay}

-- nodes of two lists
nodes_append : (sorts : Sorts) (first second : List Node) → AreNodesSorted sorts first → AreNodesSorted sorts second →
    AreNodesSorted sorts (first ++ second)
nodes_append sorts [] second a b = b
nodes_append sorts (n ∷ first) second a b = (a.0, nodes_append sorts first second a.1 b)

-- a node of a copy keeps no formula
copy_sorted : (sorts : Sorts) (rule : ℕ) (node : Copy → Node) (n : ℕ) → ((c : Copy) → IsNodeSorted sorts (node c)) →
    IsNodeSorted sorts (of_copy_or rule node n)
copy_sorted sorts rule node n each = by (nat_le n 3)
  where
    by : (b : Bool) → IsNodeSorted sorts (if b then node (copy_of n) else plain.Unfit rule)
    by true = each (copy_of n)
    by false = tt

node_good : (sorts : Sorts) (trees : List Tree) (n : NumberedNode) → IsKeepReady sorts trees n → IsNodeSorted sorts (node_over sorts trees n)
node_good sorts trees (Step copy) r = copy_sorted sorts 1 plain.Step copy (λ (c : Copy). tt)
node_good sorts trees (Abs copy n) r = copy_sorted sorts 2 (λ (c : Copy). plain.Abs c n) copy (λ (c : Copy). tt)
node_good sorts trees (Fork copy) r = copy_sorted sorts 3 plain.Fork copy (λ (c : Copy). tt)
node_good sorts trees (Loop set keep) r = by (nat_le set 15)
  where
    by : (b : Bool) → IsNodeSorted sorts (if b then plain.Loop (set_of set) (assertion_in sorts trees keep) else plain.Unfit 4)
    by true = r.1
    by false = tt
node_good sorts trees (Block counts keep) r = r.1
node_good sorts trees Dead r = tt
node_good sorts trees Ends r = tt

-- the nodes of a plan that is ready
mutual
  plan_good : (sorts : Sorts) (trees : List Tree) (p : NumberedPlan) → IsPlanReady sorts trees p →
      AreNodesSorted sorts (nodes_of (plan_over sorts trees p))
  plan_good sorts trees (At node ps) r = (node_good sorts trees node r.0, plans_good sorts trees ps r.1)

  plans_good : (sorts : Sorts) (trees : List Tree) (ps : NumberedPlans) → ArePlansReady sorts trees ps →
      AreNodesSorted sorts (all_nodes (plans_over sorts trees ps))
  plans_good sorts trees Over r = tt
  plans_good sorts trees (More p ps) r =
      nodes_append sorts (nodes_of (plan_over sorts trees p)) (all_nodes (plans_over sorts trees ps)) (plan_good sorts trees p r.0)
      (plans_good sorts trees ps r.1)

no_names : (trees : List Tree) (names : Names) → ((t : ℕ) → names t ≡ None) → AreNames trees names []
no_names trees names none = record {
  right = λ (t : ℕ) (n : TermId) (e : names t ≡ Some n). let f = none t in absurd cc;
  few = few;
}
  where
    few : 0 < 2 ^ 63
    few = omega arith

none_seen : (trees : List Tree) (names : Names) → AreSeenNamed trees names []
none_seen trees names t atom h = absurd h

fresh_stands : (s : Subject) (trees : List Tree) (x : WriterValue) → IsFresh s x → Stands s trees x (start_progress s.start)
fresh_stands s trees x f = record {
  leads = f.leads;
  names = no_names trees x.names f.names;
  terms = sym f.terms;
  forms = sym f.forms;
  nodes = sym f.nodes;
}

pub starts_underway : (t : Parts) (v w : TableValue) → ExtendsTable v w → (x : WriterValue) (y : PlacedState) (facts : List Assertion) (p : NumberedPlan)
    (certs : List CertTree) → sorts_in v ≡ sort_of t.declared → IsTaskSorted (sort_of t.declared) (task_of t) →
    state_in (sorts_in w) (trees_in w) facts y.state ≡ start_state (task_of t) → numbered_at y.cursor ≡ p →
    IsPlanReady (sorts_in v) (trees_in v) p → AreTreesWithin (length (trees_in v)) certs →
    IsWritable t (plan_over (sorts_in v) (trees_in v) p) (map (certificate_in (trees_in v)) certs) → IsFresh (subject_of t) x →
    IsUnderway (subject_of t) w x (y ∷ []) certs
starts_underway t v w wider x y facts p certs declared sorted start place ready within writable fresh =
    let s = subject_of t in
    let st = start_state (task_of t) in
    let plan = plan_over (sorts_in v) (trees_in v) p in
    let good : AreNodesSorted (sort_of t.declared) (nodes_of plan) =
    subst (λ (f : Sorts). AreNodesSorted f (nodes_of plan)) declared (plan_good (sorts_in v) (trees_in v) p ready) in
    let cs = map (certificate_in (trees_in v)) certs in
    let first = writable_ready node_sorted t plan cs (start_sorted (sort_of t.declared) (task_of t) sorted) good writable in
    record {
      seen = [];
      progress = start_progress st;
      waits = record { state = st; above = 0; plan = plan } ∷ [];
      at = record {
        sorts = sym declared ∙ sym wider.sorts;
        stands = fresh_stands s (trees_in w) x fresh;
        named = none_seen (trees_in w) x.names;
      };
      pending = refl;
      stand = (
        record {
          facts = facts;
          state = sym start;
          plan = sym (plan_stays v w wider p ready) ∙ ap (plan_over (sorts_in w) (trees_in w)) (sym place);
        },
        tt,
      );
      ready =
          subst (λ (l : List Certificate). AreWaiting s.sorts [] 0 (record { state = st; above = 0; plan = plan } ∷ []) l [])
          (sym (trees_stay v w wider certs within)) ([], first, refl);
    }
