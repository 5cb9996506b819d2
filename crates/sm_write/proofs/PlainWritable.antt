-- Plans that keep no formula can be written, where their certificates name no term.
use Rattle.sm_write.proofs.Imports.{ℕ, suc, List, [], ◌∷◌, map, sort_of, task_of, Sorts, Tree, BranchFact, Certificate, nodes_of, State, start_state, Nameable, NoTerm, AreKeptPlain, ArePlainLines, branches_of, CloseEach, PlainPlansAreWritable, plan_states, Goal, denied, all_goals, states_until, AreShown, AreKeptNameable}
use Rattle.sm_plan.specs.Nodes.{Node}
use Rattle.sm_plan.specs.Plans.{Due}
use Rattle.sm_write.proofs.ReadyPlans.{term_more, kept_more}

-- what nodes keep can be named after whatever states
kept_plain : (sorts : Sorts) (states : List State) (n : ℕ) (nodes : List Node) → AreKeptPlain nodes →
    AreKeptNameable sorts states n nodes
kept_plain sorts states n [] plain = tt
kept_plain sorts states n (node ∷ nodes) plain = (
  kept_more NoTerm (Nameable sorts (states_until states n)) (λ (t : Tree) (none : NoTerm t). absurd none) node plain.0,
  kept_plain sorts states (suc n) nodes plain.1,
)

-- each goal has its certificate, where certificates close the branches of goals and name no term
shown_plain : (sorts : Sorts) (states : List State) (goals : List Goal) (cs : List Certificate) →
    CloseEach sorts (branches_of goals) cs → ArePlainLines cs → AreShown sorts states goals cs
shown_plain sorts states [] [] close plain = tt
shown_plain sorts states [] (c ∷ cs) close plain = absurd close
shown_plain sorts states (g ∷ gs) [] close plain = absurd close
shown_plain sorts states (g ∷ gs) (c ∷ cs) close plain = (
  close.0,
  term_more NoTerm (Nameable sorts (states_until states g.node)) (λ (t : Tree) (none : NoTerm t). absurd none) c plain.0,
  shown_plain sorts states gs cs close.1 plain.1,
)

pub plain_plans_are_writable : PlainPlansAreWritable
plain_plans_are_writable t p cs dues expands plain close lines short =
    let sorts = sort_of t.declared in
    let states = plan_states 0 (start_state (task_of t)) p in
    record {
      dues = dues;
      expands = expands;
      kept = kept_plain sorts states 0 (nodes_of p) plain;
      shown = shown_plain sorts states (all_goals dues) cs close lines;
      short = short;
    }

-- the branches of goals, obligation by obligation
abbrev pub due_branches : Due → List (List BranchFact)
due_branches d = map (denied d.facts) d.goals
