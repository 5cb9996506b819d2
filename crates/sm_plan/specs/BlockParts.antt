-- Private: what a block makes at a state, and the states that follow with it.
use Rattle.std.specs.Prelude.{◌≡◌, ℕ, false, List}
use Rattle.sm_syntax.specs.claim.ConflictFree.{Copy}
use Rattle.sm_syntax.specs.text.Sorts.{Sorts}
use Rattle.sm_syntax.specs.trees.Copies.{of_copy}
use Rattle.sm_term.specs.Assertions.{conj}
use Rattle.sm_term.specs.Formulas.{numbered, assertion_in}
use Rattle.sm_term.specs.declared.formula.Formula.{Formula}
use Rattle.sm_term.specs.Slots.{all_at_stores}
use Rattle.sm_term.specs.Tables.{TableValue, trees_in, sorts_in}
use Rattle.sm_term.specs.Terms.{Tree}
use Rattle.sm_plan.specs.declared.blocks.BlockParts.{BlockParts}
use Rattle.sm_plan.specs.ReadyStates.{AreFormsReady, AreStoresReady, AreStoresFull}
use Rattle.sm_plan.specs.Statements.{front}
use Rattle.sm_plan.specs.Successors.{renewed}
use Rattle.sm_plan.specs.Views.{rest_code, forms_in, stores_in, SymState}

-- over a later table: the first statements of each copy, new values for what they assign, and the
-- kept formula, in parts and with these values
pub record IsBlockOf (old new : TableValue) (k : ℕ) (st : SymState) (counts : Copy → ℕ)
    (keep : Formula) (made : BlockParts) : Type 0 where
  pub done : (c : Copy) → rest_code (of_copy made.done c)
      ≡ front (counts c) (rest_code (of_copy st.rests c))
  pub stores : stores_in (trees_in new) made.stores
      ≡ renewed k (λ (c : Copy). rest_code (of_copy made.done c)) (stores_in (trees_in old) st.stores)
  pub target : forms_in (sorts_in new) (trees_in new) made.target.value.list.items
      ≡ conj (assertion_in (sorts_in old) (trees_in old) (numbered keep))
  pub kept : forms_in (sorts_in new) (trees_in new) made.kept.value.list.items
      ≡ all_at_stores (stores_in (trees_in new) made.stores)
      (conj (assertion_in (sorts_in old) (trees_in old) (numbered keep)))

-- all of it is ready
pub record IsBlockReady (sorts : Sorts) (trees : List Tree) (made : BlockParts) : Type 0 where
  pub stores : AreStoresReady sorts trees made.stores
  pub full : AreStoresFull sorts made.stores
  pub target : AreFormsReady sorts trees made.target.value.list.items
  pub kept : AreFormsReady sorts trees made.kept.value.list.items

-- the block alone, where a state is past it but for its stores
abbrev pub block_alone : SymState → BlockParts → SymState
block_alone st made = record {
  rests = made.done;
  stores = st.stores;
  target = made.target;
  is_final = false;
}

-- what comes after it
abbrev pub after_block : SymState → BlockParts → SymState
after_block st made = record {
  rests = st.rests;
  stores = made.stores;
  target = st.target;
  is_final = st.is_final;
}
