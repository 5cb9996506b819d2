-- Private: stores in which some names have new values, and the turns of loops from what their head
-- has.
use Rattle.std.specs.Prelude.{ℕ, Bool, true, false, if◌then◌else◌, Option, Some, None, option_map, IfSome, List, [], ◌∷◌, ◌++◌}
use Rattle.std.specs.List.{flat_map}
use Rattle.sm_syntax.specs.claim.Syntax.{Code, End}
use Rattle.sm_syntax.specs.text.Sorts.{Sorts}
use Rattle.sm_syntax.specs.trees.Copies.{of_copy}
use Rattle.sm_syntax.specs.declared.copies.PerCopy.{PerCopy}
use Rattle.sm_term.specs.Assertions.{Assertion, negate}
use Rattle.sm_term.specs.Formulas.{numbered, assertion_in}
use Rattle.sm_term.specs.declared.formula.Formula.{Formula}
use Rattle.sm_syntax.specs.claim.ConflictFree.{Copy}
use Rattle.sm_term.specs.Symbolic.{SymbolicStore, form_of}
use Rattle.sm_term.specs.Terms.{Tree, Havoc}
use Rattle.sm_plan.specs.Copies.{Copies, copies, no_copies, has}
use Rattle.sm_plan.specs.ReadyStates.{IsFormReady}
use Rattle.sm_plan.specs.States.{State}
use Rattle.sm_plan.specs.Statements.{rest_after, loop_guard, loop_body}

-- a store of a copy in which the names that pass a test have new values of node k
abbrev pub with_new : ℕ → Copy → (ℕ → Bool) → SymbolicStore → SymbolicStore
with_new k c test s x = if test x then Havoc k c x else s x

-- the body of the loop of each copy of a set, nothing for the others
abbrev pub bodies_of : Copies → (Copy → Code) → Copy → Code
bodies_of set rest c = if has set c then loop_body (rest c) else End

-- the formulas of guards at the head of loops, one for each copy of a set
abbrev pub guards_at : Copies → (Copy → Code) → (Copy → SymbolicStore) → Copy → Option Assertion
guards_at set rest stores c =
    if has set c then Some (form_of (loop_guard (rest c)) (stores c)) else None

-- a guard where it is true, and its negation where it isn't
abbrev pub turned : Option Assertion → Bool → List Assertion
turned None is_turning = []
turned (Some f) is_turning = (if is_turning then f else negate f) ∷ []

-- those of the copies, of which some take a turn
abbrev pub turned_guards : (Copy → Option Assertion) → Copies → List Assertion
turned_guards guards turning = flat_map (λ (c : Copy). turned (guards c) (has turning c)) copies

-- one turn of the loops of some copies, from stores, kept facts, guards and a target
abbrev pub turn_of : (Copy → Code) → List Assertion → (Copy → SymbolicStore) → List Assertion →
    (Copy → Option Assertion) → List Assertion → Copies → State
turn_of rest facts stores kept guards target turning = record {
  rest = bodies_of turning rest;
  stores = stores;
  facts = facts ++ (kept ++ turned_guards guards turning);
  target = target;
  is_final = false;
}

-- the formulas of the program's guards
abbrev pub guard_forms : Sorts → List Tree → PerCopy (Option Formula) → Copy → Option Assertion
guard_forms sorts trees guards c =
    option_map (λ (f : Formula). assertion_in sorts trees (numbered f)) (of_copy guards c)

-- a guard, where there is one, is ready
abbrev pub AreGuardsReady : Sorts → List Tree → PerCopy (Option Formula) → Type 0
AreGuardsReady sorts trees guards = (c : Copy) → IfSome (of_copy guards c) (IsFormReady sorts trees)

-- what comes after the loops of a set, from the same
abbrev pub after_of : (Copy → Code) → List Assertion → (Copy → SymbolicStore) → List Assertion →
    (Copy → Option Assertion) → List Assertion → Bool → Copies → State
after_of rest facts stores kept guards target final set = record {
  rest = λ (c : Copy). if has set c then rest_after 1 (rest c) else rest c;
  stores = stores;
  facts = facts ++ (kept ++ turned_guards guards no_copies);
  target = target;
  is_final = final;
}
