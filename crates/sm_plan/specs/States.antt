-- Cited by public clauses: the states of a proof, which are four programs side by side, in symbols.
use Rattle.std.specs.Prelude.{ℕ, Bool, true, Option, Some, None, List, [], ◌∷◌}
use Rattle.std.specs.List.{flat_map}
use Rattle.sm_syntax.specs.declared.tree.Sort.{Sort}
use Rattle.sm_syntax.specs.declared.tree.Sort.TheVariants.{Num, Arr}
use Rattle.sm_syntax.specs.claim.Syntax.{Condition, Code}
use Rattle.sm_syntax.specs.claim.ConflictFree.{Copy, O, A, B, M, Task, program_of}
use Rattle.sm_term.specs.Terms.{Tree, Start, Slot, Cell, Read}
use Rattle.sm_term.specs.Assertions.{Assertion, Eq, Ne, Or, conj}
use Rattle.sm_term.specs.Symbolic.{SymbolicStore, form_of}

-- what is left of each copy, its symbolic store, the facts, the target at the ends, and whether
-- that is the final one
pub record State : Type 0 where
  pub rest : Copy → Code
  pub stores : Copy → SymbolicStore
  pub facts : List Assertion
  pub target : List Assertion
  pub is_final : Bool

-- the place of an output's cell in a copy
abbrev pub place : ℕ × Sort → Copy → Tree
place (x, Num) c = Slot c x
place (x, Arr) c = Read (Slot c x) Cell

-- the three goals of four numbers: A's change is kept, B's change is kept, nothing else changes
abbrev pub keeps_goals : (Copy → Tree) → List Assertion
keeps_goals at =
    Or (Eq Num (at O) (at A)) (Eq Num (at M) (at A))
    ∷ Or (Eq Num (at O) (at B)) (Eq Num (at M) (at B))
    ∷ Or (Ne Num (at O) (at A)) (Or (Ne Num (at A) (at B)) (Eq Num (at M) (at O)))
    ∷ []

-- the start values
abbrev pub start_store : SymbolicStore
start_store x = Start x

-- the facts at the start: those of the assumption
abbrev pub start_facts : Option Condition → List Assertion
start_facts None = []
start_facts (Some b) = conj (form_of b start_store)

-- the start: the whole programs, with the goals of each output in order
abbrev pub start_of : Option Condition → List (ℕ × Sort) → (Copy → Code) → State
start_of assumed outputs program = record {
  rest = program;
  stores = λ (c : Copy). start_store;
  facts = start_facts assumed;
  target = flat_map (λ (output : ℕ × Sort). keeps_goals (place output)) outputs;
  is_final = true;
}

-- the start of a task
abbrev pub start_state : Task → State
start_state t = start_of t.assumed t.outputs (program_of t)
