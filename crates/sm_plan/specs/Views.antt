-- Cited by public clauses: the states and nodes that those of the program stand for, by the trees
-- of a table's numbers. The facts of a state stand with whoever holds it.
use Rattle.std.specs.Prelude.{nat_le, if◌then◌else◌, List, [], ◌∷◌, ◌++◌, map}
use Rattle.sm_syntax.specs.claim.Syntax.{Code, End}
use Rattle.sm_syntax.specs.claim.ConflictFree.{Copy}
use Rattle.sm_syntax.specs.text.Sorts.{Sorts}
use Rattle.sm_syntax.specs.trees.Copies.{of_copy, copy_named}
use Rattle.sm_syntax.specs.declared.copies.PerCopy.{PerCopy}
use Rattle.sm_syntax.specs.trees.Views.{sequence, statement_of}
use Rattle.sm_syntax.specs.declared.tree.Stmt.{Stmt}
use Rattle.sm_term.specs.Terms.{Tree}
use Rattle.sm_term.specs.Assertions.{Assertion}
use Rattle.sm_term.specs.Formulas.{numbered, assertion_in}
use Rattle.sm_term.specs.declared.formula.Formula.{Formula}
use Rattle.sm_term.specs.Symbolic.{SymbolicStore}
use Rattle.sm_term.specs.SymStores.{store_in}
use Rattle.sm_term.specs.declared.symbolic.SymStore.{SymStore}
pub use Rattle.sm_plan.specs.declared.node.NodeRow.{NodeRow}
use Rattle.sm_plan.specs.declared.node.NodeRow.TheVariants as row
pub use Rattle.sm_plan.specs.declared.opening.Opened.{Opened}
use Rattle.sm_plan.specs.declared.opening.Successor.{Successor}
pub use Rattle.sm_plan.specs.declared.rest.Continuation.{Continuation}
pub use Rattle.sm_plan.specs.declared.state.SymState.{SymState}
use Rattle.sm_plan.specs.Masks.{set_of}
use Rattle.sm_plan.specs.Nodes as plan
use Rattle.sm_plan.specs.States.{State}
use denote.Bor.{Bor}

-- the code of statements before more code
abbrev pub code_before : List Stmt → Code → Code
code_before ss k = sequence (map statement_of ss) k

-- the code of slices, of which the last comes first, before more code
abbrev pub frames_before : List (Bor (List Stmt)) → Code → Code
frames_before [] k = k
frames_before (f ∷ fs) k = frames_before fs (code_before f.now k)

-- what is left of a program
abbrev pub rest_code : Continuation → Code
rest_code r = frames_before r.frames.items End

-- the formulas over the trees of a table
abbrev pub forms_in : Sorts → List Tree → List Formula → List Assertion
forms_in sorts trees fs = map (λ (f : Formula). assertion_in sorts trees (numbered f)) fs

-- the stores of the copies
abbrev pub stores_in : List Tree → PerCopy SymStore → Copy → SymbolicStore
stores_in trees stores c = store_in trees (of_copy stores c)

-- a state with these facts
abbrev pub state_in : Sorts → List Tree → List Assertion → SymState → State
state_in sorts trees facts st = record {
  rest = λ (c : Copy). rest_code (of_copy st.rests c);
  stores = stores_in trees st.stores;
  facts = facts;
  target = forms_in sorts trees st.target.value.list.items;
  is_final = st.is_final;
}

-- a node; a copy past the fourth is the fourth, and a set of more than four copies fits no state
abbrev pub node_in : Sorts → List Tree → NodeRow → plan.Node
node_in sorts trees (row.Step c) = plan.Step (copy_named c)
node_in sorts trees (row.Abs c n) = plan.Abs (copy_named c) n
node_in sorts trees (row.Fork c) = plan.Fork (copy_named c)
node_in sorts trees (row.Loop set keep) =
    if nat_le set 15 then plan.Loop (set_of set) (assertion_in sorts trees (numbered keep.now))
    else plan.Unfit 4
node_in sorts trees (row.Block counts keep) =
    plan.Block (of_copy counts) (assertion_in sorts trees (numbered keep.now))
node_in sorts trees row.Dead = plan.Dead
node_in sorts trees row.End = plan.Ends

-- a state that follows, where these facts stand before
abbrev pub successor_in : Sorts → List Tree → List Assertion → Successor → State
successor_in sorts trees facts next =
    state_in sorts trees
    (facts
    ++ (forms_in sorts trees next.kept.value.list.items
    ++ forms_in sorts trees next.more.list.items))
    next.state

-- what a node opens at a state with these facts
abbrev pub opened_in : Sorts → List Tree → List Assertion → Opened → plan.Opened
opened_in sorts trees facts o = record {
  goals = forms_in sorts trees o.goals.list.items;
  states = map (successor_in sorts trees facts) o.states.items;
}
