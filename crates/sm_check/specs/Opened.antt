-- Private: what a node opens, as it waits.
use Rattle.std.specs.Prelude.{◌≡◌, ℕ, List, [], ◌∷◌}
use Rattle.sm_syntax.specs.declared.copies.PerCopy.{PerCopy}
use Rattle.sm_term.specs.declared.symbolic.SymStore.{SymStore}
use Rattle.sm_term.specs.Formulas.{numbered, contrary}
use Rattle.sm_term.specs.declared.formula.Formula.{Formula}
use Rattle.sm_theory.specs.declared.fact.Fact.{Fact}
use Rattle.sm_theory.specs.declared.fact.Fact.TheVariants as fact
use Rattle.sm_plan.specs.declared.opening.Successor.{Successor}
use Rattle.sm_check.specs.declared.pending.Waiting.{Waiting}
use Rattle.sm_check.specs.declared.pending.Waiting.TheVariants as waits

-- a state that follows waits under this many branching nodes, and shares so many facts
abbrev pub waits_at : ℕ → ℕ → Successor → Waiting
waits_at shared above next = waits.State shared next.kept next.more next.state above

-- a fact says the contrary of a formula
abbrev pub SaysContrary : Formula → Fact → Type 0
SaysContrary goal (fact.Form f) = numbered f ≡ contrary (numbered goal)
SaysContrary goal (fact.Lin f) = ⊥

-- the branch of a goal waits: its own fact is the contrary of the goal, and no split is above it
abbrev pub IsDenied : ℕ → PerCopy SymStore → Formula → Waiting → Type 0
IsDenied shared stores goal (waits.State n kept more state above) = ⊥
IsDenied shared stores goal (waits.Branch n fact held splits) =
    (n ≡ shared) × SaysContrary goal fact × (held.value ≡ stores) × (splits ≡ 0)

-- for each goal, in order, the branch of its contrary waits, with no split above it
abbrev pub AreDenied : ℕ → PerCopy SymStore → List Formula → List Waiting → Type 0
AreDenied shared stores [] [] = Unit {0}
AreDenied shared stores [] (w ∷ ws) = ⊥
AreDenied shared stores (goal ∷ goals) [] = ⊥
AreDenied shared stores (goal ∷ goals) (w ∷ ws) =
    IsDenied shared stores goal w × AreDenied shared stores goals ws
