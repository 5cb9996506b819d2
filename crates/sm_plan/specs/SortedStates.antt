-- Cited by public clauses: states and nodes in which each part has the sort that it is used with.
use Rattle.std.specs.Prelude.{◌≡◌, ℕ, Option, Some, None, List, [], ◌∷◌}
use Rattle.sm_syntax.specs.text.Sorts.{Sorts, IsWellSorted, IsWellSortedCondition}
use Rattle.sm_syntax.specs.declared.tree.Sort.{Sort}
use Rattle.sm_syntax.specs.claim.Syntax.{Condition}
use Rattle.sm_syntax.specs.claim.ConflictFree.{Copy, Task, program_of}
use Rattle.sm_term.specs.Sorted.{IsFormSorted, AreFormsSorted, IsStoreSorted}
use Rattle.sm_plan.specs.States.{State}
use Rattle.sm_plan.specs.Nodes.{Node, Step, Abs, Fork, Loop, Block, Dead, Ends, Unfit}

-- what is left of each copy is well sorted, and so are its store, the facts and the target
pub record IsStateSorted (sorts : Sorts) (st : State) : Type 0 where
  pub rest : (c : Copy) → IsWellSorted sorts (st.rest c)
  pub stores : (c : Copy) → IsStoreSorted sorts (st.stores c)
  pub facts : AreFormsSorted sorts st.facts
  pub target : AreFormsSorted sorts st.target

-- each state of a list is well sorted: its code, its stores, its facts and its target
abbrev pub AreStatesSorted : Sorts → List State → Type 0
AreStatesSorted sorts [] = Unit {0}
AreStatesSorted sorts (st ∷ states) = IsStateSorted sorts st × AreStatesSorted sorts states

-- the formula that a node keeps is sorted
abbrev pub IsNodeSorted : Sorts → Node → Type 0
IsNodeSorted sorts (Step c) = Unit {0}
IsNodeSorted sorts (Abs c n) = Unit {0}
IsNodeSorted sorts (Fork c) = Unit {0}
IsNodeSorted sorts (Loop set keep) = IsFormSorted sorts keep
IsNodeSorted sorts (Block counts keep) = IsFormSorted sorts keep
IsNodeSorted sorts Dead = Unit {0}
IsNodeSorted sorts Ends = Unit {0}
IsNodeSorted sorts (Unfit rule) = Unit {0}

-- an assumption, where there is one, is well sorted
abbrev pub IsAssumptionSorted : Sorts → Option Condition → Type 0
IsAssumptionSorted sorts None = Unit {0}
IsAssumptionSorted sorts (Some b) = IsWellSortedCondition sorts b

-- each output is declared with its sort
abbrev pub AreOutputsDeclared : Sorts → List (ℕ × Sort) → Type 0
AreOutputsDeclared sorts [] = Unit {0}
AreOutputsDeclared sorts (output ∷ rest) =
    (sorts output.0 ≡ Some output.1) × AreOutputsDeclared sorts rest

-- the programs of a task, its assumption and its outputs are as they are declared
pub record IsTaskSorted (sorts : Sorts) (t : Task) : Type 0 where
  pub programs : (c : Copy) → IsWellSorted sorts (program_of t c)
  pub assumed : IsAssumptionSorted sorts t.assumed
  pub outputs : AreOutputsDeclared sorts t.outputs
