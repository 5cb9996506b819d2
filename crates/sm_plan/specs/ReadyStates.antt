-- Cited by public clauses: when a state of the program may be gone on from.
use Rattle.std.specs.Prelude.{ℕ, ◌<◌, length, List, [], ◌∷◌}
use Rattle.sm_syntax.specs.claim.ConflictFree.{Copy}
use Rattle.sm_syntax.specs.text.Sorts.{Sorts, IsWellSorted}
use Rattle.sm_syntax.specs.trees.Copies.{of_copy}
use Rattle.sm_syntax.specs.declared.copies.PerCopy.{PerCopy}
use Rattle.sm_term.specs.Terms.{Tree}
use Rattle.sm_term.specs.Formulas.{numbered, assertion_in, IsFormulaWithin}
use Rattle.sm_term.specs.declared.formula.Formula.{Formula}
use Rattle.sm_term.specs.Sorted.{IsFormSorted, IsStoreSorted, IsDeclaredIn}
use Rattle.sm_term.specs.SymStores.{store_in, IsStoreWithin}
use Rattle.sm_term.specs.declared.symbolic.SymStore.{SymStore}
use Rattle.sm_plan.specs.declared.node.NodeRow.TheVariants as row
pub use Rattle.sm_plan.specs.declared.opening.Successor.{Successor}
use Rattle.sm_plan.specs.Views.{rest_code, SymState, NodeRow}

-- a formula of a table, in which each part has the sort that it is used with
abbrev pub IsFormReady : Sorts → List Tree → Formula → Type 0
IsFormReady sorts trees f =
    IsFormulaWithin (length trees) (numbered f)
    × IsFormSorted sorts (assertion_in sorts trees (numbered f))

-- formulas of a table, in which each part has the sort that it is used with
abbrev pub AreFormsReady : Sorts → List Tree → List Formula → Type 0
AreFormsReady sorts trees [] = Unit {0}
AreFormsReady sorts trees (f ∷ fs) = IsFormReady sorts trees f × AreFormsReady sorts trees fs

-- a store of terms of a table, in which each declared name has a term of its sort
abbrev pub IsStoreReady : Sorts → List Tree → SymStore → Type 0
IsStoreReady sorts trees s = IsStoreWithin (length trees) s × IsStoreSorted sorts (store_in trees s)

-- each copy's store is of terms of a table, and each declared name has a term of its sort
abbrev pub AreStoresReady : Sorts → List Tree → PerCopy SymStore → Type 0
AreStoresReady sorts trees stores = (c : Copy) → IsStoreReady sorts trees (of_copy stores c)

-- each declared name has its term in the list of a store
abbrev pub IsStoreFull : Sorts → SymStore → Type 0
IsStoreFull sorts s = (x : ℕ) → IsDeclaredIn sorts x → x < length s.list.items

-- each declared name has its term in the list of each copy's store
abbrev pub AreStoresFull : Sorts → PerCopy SymStore → Type 0
AreStoresFull sorts stores = (c : Copy) → IsStoreFull sorts (of_copy stores c)

-- what is left of each copy is well sorted, the stores are full, and they and the target are ready
pub record IsStateReady (sorts : Sorts) (trees : List Tree) (st : SymState) : Type 0 where
  pub rests : (c : Copy) → IsWellSorted sorts (rest_code (of_copy st.rests c))
  pub stores : AreStoresReady sorts trees st.stores
  pub target : AreFormsReady sorts trees st.target.value.list.items
  pub full : AreStoresFull sorts st.stores

-- a state that follows is ready, with the facts that come to it
pub record IsSuccessorReady (sorts : Sorts) (trees : List Tree) (next : Successor) : Type 0 where
  pub state : IsStateReady sorts trees next.state
  pub kept : AreFormsReady sorts trees next.kept.value.list.items
  pub more : AreFormsReady sorts trees next.more.list.items

-- each state that follows is ready, with the facts that come to it
abbrev pub AreSuccessorsReady : Sorts → List Tree → List Successor → Type 0
AreSuccessorsReady sorts trees [] = Unit {0}
AreSuccessorsReady sorts trees (next ∷ rest) =
    IsSuccessorReady sorts trees next × AreSuccessorsReady sorts trees rest

-- the formula that a node keeps is ready
abbrev pub IsNodeReady : Sorts → List Tree → NodeRow → Type 0
IsNodeReady sorts trees (row.Step c) = Unit {0}
IsNodeReady sorts trees (row.Abs c n) = Unit {0}
IsNodeReady sorts trees (row.Fork c) = Unit {0}
IsNodeReady sorts trees (row.Loop set keep) = IsFormReady sorts trees keep.now
IsNodeReady sorts trees (row.Block counts keep) = IsFormReady sorts trees keep.now
IsNodeReady sorts trees row.Dead = Unit {0}
IsNodeReady sorts trees row.End = Unit {0}
