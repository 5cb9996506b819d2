-- Private: what the program opens at a state is what a node opens there.
use Rattle.std.specs.Prelude.{◌≡◌, ◌⊎◌, ◌<◌, ℕ, Bool, true, false, Option, Some, None, List, [], ◌∷◌, map, get_or, option_map, IfSome}
use Rattle.sm_syntax.specs.declared.tree.Name.{Name}
use Rattle.sm_syntax.specs.claim.Syntax.{Code}
use Rattle.sm_syntax.specs.claim.ConflictFree.{Copy}
use Rattle.sm_syntax.specs.trees.Copies.{of_copy}
use Rattle.sm_term.specs.Assertions.{Assertion}
use Rattle.sm_term.specs.Symbolic.{SymbolicStore}
use Rattle.sm_term.specs.Tables.{TableValue, trees_in, sorts_in}
use Rattle.sm_term.specs.declared.term.TermId.{TermId}
use Rattle.sm_plan.specs.Copies.{with_copy}
use Rattle.sm_plan.specs.Nodes as plan
use Rattle.sm_plan.specs.ReadyStates.{AreSuccessorsReady, AreFormsReady, AreStoresReady}
use Rattle.sm_plan.specs.Views.{rest_code, opened_in, stores_in, SymState, Opened}

-- what a statement leaves of code and of a store, where it is done
abbrev pub done_if : Bool → Code → SymbolicStore → Option (Code × SymbolicStore)
done_if true k s = Some (k, s)
done_if false k s = None

-- from a state over a table to what is opened over a later one, whatever the facts are
pub record IsOpening (old new : TableValue) (st : SymState)
    (want : List Assertion → Option plan.Opened) (o : Option Opened) : Type 0 where
  pub opened : (facts : List Assertion) →
      option_map (opened_in (sorts_in new) (trees_in new) facts) o ≡ want facts
  pub stores : IfSome o (λ (p : Opened).
      (p.goals.list.items ≡ [])
      ⊎ (stores_in (trees_in new) p.stores ≡ stores_in (trees_in old) st.stores))
  pub ready : IfSome o (λ (p : Opened).
      AreSuccessorsReady (sorts_in new) (trees_in new) p.states.items)
  pub goals : IfSome o (λ (p : Opened).
      AreFormsReady (sorts_in new) (trees_in new) p.goals.list.items)
  pub asking : IfSome o (λ (p : Opened). AreStoresReady (sorts_in new) (trees_in new) p.stores)

-- a state in which one copy has another rest
pub record IsBranch (st next : SymState) (c : Copy) (k : Code) : Type 0 where
  pub rests : (d : Copy) → rest_code (of_copy next.rests d)
      ≡ with_copy (λ (e : Copy). rest_code (of_copy st.rests e)) c k d
  pub stores : (d : Copy) → (of_copy next.stores d).list.items ≡ (of_copy st.stores d).list.items
  pub target : next.target.value.list.items ≡ st.target.value.list.items
  pub is_final : next.is_final ≡ st.is_final

-- the terms that a list has at names
abbrev pub terms_named : List TermId → List Name → List TermId
terms_named terms names = map (λ (x : Name). get_or terms x.0 (record { 0 = 0 })) names

-- each name is below a number
abbrev pub AreNamesBelow : ℕ → List Name → Type 0
AreNamesBelow n [] = Unit {0}
AreNamesBelow n (x ∷ xs) = (x.0 < n) × AreNamesBelow n xs
