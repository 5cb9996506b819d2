-- A plan whose kept formulas are sorted and have no new value and no summary can be written, where each goal is certified.
use Rattle.sm_houdini.proofs.Imports.{◌≡◌, ℕ, suc, List, [], ◌∷◌, ◌++◌, refl, ap, subst, Parts, sort_of, task_of, Sorts, Assertion, negate, IsFormSorted, AreFormsSorted, BranchFact, Formal, as_facts, Certificate, EachTerm, is_shallow, Node, Unfit, Plans, branches, nodes_of, all_nodes, Deep, expand, obligations, IsTaskSorted, State, start_state, Each, each_append, terms_walked, IsOneOf, IsTermOf, EachSide, AllSides, Nameable, plan_states, Goal, denied, all_goals, states_until, AreShown, EachKept, AreKeptNameable, AreShort, IsWritable, branches_are_nameable, term_more, kept_nameable, asked, AreCertified, passed}
use Rattle.std.proofs.Common.{Ok, map}
use Rattle.sm_cert.specs.Certificates.{Closes}
use Rattle.sm_plan.specs.Nodes.{Step, Abs, Fork, Loop, Block, Dead, Ends}
use Rattle.sm_plan.specs.Plans.{Plan, At, Over, More, Due}
use Rattle.sm_houdini.proofs.NamedGoals.{IsSimple, AreSimple, AreAllSimple, IsNamed, asked_named}
use Rattle.sm_houdini.proofs.WalkedTerms.{walked_terms}

-- the branch of a goal
branch_same : (facts : List Assertion) (goal : Assertion) → as_facts (facts ++ negate goal ∷ []) ≡ denied facts goal
branch_same [] goal = refl
branch_same (f ∷ facts) goal = ap (λ (fs : List BranchFact). Formal f ∷ fs) (branch_same facts goal)

-- certificates of both parts
pub certified_append : (sorts : Sorts) (gs hs : List (List Assertion × Assertion)) (cs es : List Certificate) → AreCertified sorts gs cs →
    AreCertified sorts hs es → AreCertified sorts (gs ++ hs) (cs ++ es)
certified_append sorts [] hs [] es first second = second
certified_append sorts [] hs (c ∷ cs) es first second = absurd first
certified_append sorts (g ∷ gs) hs [] es first second = absurd first
certified_append sorts (g ∷ gs) hs (c ∷ cs) es first second = (first.0, certified_append sorts gs hs cs es first.1 second)

module _ (sorts : Sorts) (all : List State) where
  -- what a certificate names can be named
  one_named : (n : ℕ) (facts : List Assertion) (goal : Assertion) (c : Certificate) → AreFormsSorted sorts facts →
      IsFormSorted sorts goal → AllSides (Nameable sorts (states_until all n)) facts →
      EachSide (Nameable sorts (states_until all n)) goal →
      EachTerm (IsOneOf (terms_walked facts goal)) c → EachTerm (Nameable sorts (states_until all n)) c
  one_named n facts goal c known asks known_named goal_named each =
      branches_are_nameable sorts (states_until all n) facts goal c known_named goal_named
      (term_more (IsOneOf (terms_walked facts goal)) (IsTermOf sorts (facts ++ negate goal ∷ []))
      (walked_terms sorts facts goal known asks) c each)

  -- the goals of an obligation, and then others
  goals_shown : (n : ℕ) (facts goals : List Assertion) (more : List (List Assertion × Assertion)) (others : List Goal)
      (cs : List Certificate) → AreFormsSorted sorts facts → AreFormsSorted sorts goals →
      AllSides (Nameable sorts (states_until all n)) facts → AllSides (Nameable sorts (states_until all n)) goals →
      ((es : List Certificate) → AreCertified sorts more es → AreShown sorts all others es) →
      AreCertified sorts (map (λ (g : Assertion). (facts, g)) goals ++ more) cs →
      AreShown sorts all (map (λ (g : Assertion). record { node = n; branch = denied facts g }) goals ++ others) cs
  goals_shown n facts [] more others cs known asks known_named goals_named later certified = later cs certified
  goals_shown n facts (g ∷ goals) more others [] known asks known_named goals_named later certified = absurd certified
  goals_shown n facts (g ∷ goals) more others (c ∷ cs) known asks known_named goals_named later certified = (
    subst (λ (b : List BranchFact). Closes sorts b c) (branch_same facts g) certified.0.0,
    one_named n facts g c known asks.0 known_named goals_named.0 certified.0.1,
    goals_shown n facts goals more others cs known asks.1 known_named goals_named.1 later certified.1,
  )

  -- those of all obligations
  dues_shown : (ds : List Due) (cs : List Certificate) → Each (IsNamed sorts all) ds → AreCertified sorts (asked ds) cs →
      AreShown sorts all (all_goals ds) cs
  dues_shown [] [] named certified = tt
  dues_shown [] (c ∷ cs) named certified = absurd certified
  dues_shown (d ∷ ds) cs named certified =
      goals_shown d.node d.facts d.goals (asked ds) (all_goals ds) cs named.0.known_sorted named.0.goals_sorted named.0.known_named
      named.0.goals_named (λ (es : List Certificate) (h : AreCertified sorts (asked ds) es). dues_shown ds es named.1 h) certified

  -- what nodes keep can be named after whatever states
  node_kept : (n : ℕ) (node : Node) → IsSimple sorts node → EachKept (Nameable sorts (states_until all n)) node
  node_kept n (Step c) simple = tt
  node_kept n (Abs c m) simple = tt
  node_kept n (Fork c) simple = tt
  node_kept n (Loop set keep) simple = kept_nameable sorts (states_until all n) keep simple.0 simple.1
  node_kept n (Block counts keep) simple = kept_nameable sorts (states_until all n) keep simple.0 simple.1
  node_kept n Dead simple = tt
  node_kept n Ends simple = tt
  node_kept n (Unfit rule) simple = tt

  nodes_kept : (n : ℕ) (nodes : List Node) → Each (IsSimple sorts) nodes → AreKeptNameable sorts all n nodes
  nodes_kept n [] simple = tt
  nodes_kept n (node ∷ nodes) simple = (node_kept n node simple.0, nodes_kept (suc n) nodes simple.1)

mutual
  nodes_simple : (sorts : Sorts) (p : Plan) → AreSimple sorts p → Each (IsSimple sorts) (nodes_of p)
  nodes_simple sorts (At node ps) simple = (simple.0, all_nodes_simple sorts ps simple.1)

  all_nodes_simple : (sorts : Sorts) (ps : Plans) → AreAllSimple sorts ps → Each (IsSimple sorts) (all_nodes ps)
  all_nodes_simple sorts Over simple = tt
  all_nodes_simple sorts (More p ps) simple =
      each_append (IsSimple sorts) (nodes_of p) (all_nodes ps) (nodes_simple sorts p simple.0) (all_nodes_simple sorts ps simple.1)

-- the goals of such a plan
pub shown_goals : (t : Parts) (p : Plan) (ds : List Due) (cs : List Certificate) → IsTaskSorted (sort_of t.declared) (task_of t) →
    AreSimple (sort_of t.declared) p → obligations (task_of t) p ≡ Ok ds → AreCertified (sort_of t.declared) (asked ds) cs →
    AreShown (sort_of t.declared) (plan_states 0 (start_state (task_of t)) p) (all_goals ds) cs
shown_goals t p ds cs sorted simple e certified =
    let sorts = sort_of t.declared in
    let start = start_state (task_of t) in
    let expands = passed (is_shallow (branches p)) (expand 0 start p) Deep ds e in
    dues_shown sorts (plan_states 0 start p) ds cs (asked_named sorts (task_of t) p ds sorted simple expands) certified

pub simple_writable : (t : Parts) (p : Plan) (ds : List Due) (cs : List Certificate) → IsTaskSorted (sort_of t.declared) (task_of t) →
    AreSimple (sort_of t.declared) p → obligations (task_of t) p ≡ Ok ds → AreCertified (sort_of t.declared) (asked ds) cs →
    AreShort cs → IsWritable t p cs
simple_writable t p ds cs sorted simple e certified short =
    let sorts = sort_of t.declared in
    let all = plan_states 0 (start_state (task_of t)) p in
    record {
      dues = ds;
      expands = e;
      kept = nodes_kept sorts all 0 (nodes_of p) (nodes_simple sorts p simple);
      shown = shown_goals t p ds cs sorted simple e certified;
      short = short;
    }
