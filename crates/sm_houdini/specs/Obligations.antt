-- Cited by public clauses: what the nodes of a plan ask of the templates of a site, under one choice
-- and under another.
use Rattle.std.specs.Prelude.{◌≡◌, ◌⊎◌, ℕ, ◌<◌, true, Some, List, [], ◌∷◌, length, slice_get}
use Rattle.sm_syntax.specs.text.Conditions.{is_in}
use Rattle.sm_syntax.specs.text.Parts.{Parts, sort_of, task_of}
use Rattle.sm_term.specs.Assertions.{Assertion}
use Rattle.sm_term.specs.Slots.{all_at_stores}
use Rattle.sm_plan.specs.Plans.{Due}
use Rattle.sm_plan.specs.States.{State, start_state}
use Rattle.sm_sketch.specs.Choices.{Choice, chosen_at, picked}
use Rattle.sm_product.specs.ProductPlans.{templates, plan_of}
use Rattle.sm_write.specs.PlanStates.{plan_states}
use Rattle.sm_houdini.specs.Certified.{HasCertificate}
use Rattle.sm_houdini.specs.Owners.{owner_of}
use Rattle.sm_houdini.specs.Rounds.{dues_of}

-- the states of the nodes of the plan of a choice
abbrev pub states_of : Parts → Choice → List State
states_of t choice = plan_states 0 (start_state (task_of t)) (plan_of t choice)

-- a node asks the templates that are chosen at a site, in order, all at the stores of its own state,
-- over the facts of that state
pub record AsksChosen (t : Parts) (choice : Choice) (s : ℕ) (d : Due) : Type 0 where
  pub state : State
  pub stands : slice_get (states_of t choice) d.node ≡ Some state
  pub facts : d.facts ≡ state.facts
  pub goals : d.goals ≡ all_at_stores state.stores (picked (templates t s) (chosen_at choice s))

-- an obligation of the n-th template of a site under a choice: of what a node asks for the site, the
-- goal at the place that the template has among those that are chosen there
pub record Obligation (t : Parts) (choice : Choice) (s n : ℕ) : Type 0 where
  pub number : ℕ
  pub due : Due
  pub is_due : slice_get (dues_of t choice) number ≡ Some due
  pub owner : owner_of t due ≡ Some s
  pub place : ℕ
  pub is_chosen : slice_get (chosen_at choice s) place ≡ Some n
  pub goal : Assertion
  pub is_goal : slice_get due.goals place ≡ Some goal

-- each number of a choice is that of a template
abbrev pub HasTemplates : Parts → Choice → Type 0
HasTemplates t choice =
    (s n : ℕ) → is_in (chosen_at choice s) n ≡ true → n < length (templates t s)

-- a choice has all templates of another
abbrev pub HasAll : Choice → Choice → Type 0
HasAll choice other =
    (s n : ℕ) → is_in (chosen_at other s) n ≡ true → is_in (chosen_at choice s) n ≡ true

-- each obligation of a template under a choice has a certificate that checks, without an exact line
abbrev pub IsShownUnder : Parts → Choice → ℕ → ℕ → Type 0
IsShownUnder t choice s n =
    (o : Obligation t choice s n) → HasCertificate (sort_of t.declared) o.due.facts o.goal

-- what stands in a list stands in another, in the same order
abbrev pub StandIn : {X : Type 0} → List X → List X → Type 0
StandIn [] ys = Unit {0}
StandIn (x ∷ xs) [] = ⊥
StandIn (x ∷ xs) (y ∷ ys) = ((x ≡ y) × StandIn xs ys) ⊎ StandIn (x ∷ xs) ys

-- an obligation under a larger choice is one under a smaller as well: at the same node, with the same
-- goal, over facts that stand in order among its own
pub record IsAskedUnder (t : Parts) (choice larger : Choice) (s n : ℕ)
    (o : Obligation t larger s n) : Type 0 where
  pub obligation : Obligation t choice s n
  pub node : obligation.due.node ≡ o.due.node
  pub goal : obligation.goal ≡ o.goal
  pub facts : StandIn obligation.due.facts o.due.facts
