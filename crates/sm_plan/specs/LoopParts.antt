-- Private: what the loops of a set of copies make at a state.
use Rattle.std.specs.Prelude.{◌≡◌, ℕ, true, nat_le, List, map}
use Rattle.sm_syntax.specs.claim.ConflictFree.{Copy}
use Rattle.sm_syntax.specs.text.Sorts.{Sorts}
use Rattle.sm_syntax.specs.trees.Copies.{of_copy}
use Rattle.sm_term.specs.Assertions.{Assertion, conj}
use Rattle.sm_term.specs.Formulas.{numbered, assertion_in}
use Rattle.sm_term.specs.declared.formula.Formula.{Formula}
use Rattle.sm_term.specs.Slots.{all_at_stores}
use Rattle.sm_term.specs.Tables.{TableValue, trees_in, sorts_in}
use Rattle.sm_term.specs.Terms.{Tree}
use Rattle.sm_plan.specs.declared.turns.LoopParts.{LoopParts}
use Rattle.sm_plan.specs.Copies.{subsets}
use Rattle.sm_plan.specs.Heads.{guard_forms, guards_at}
use Rattle.sm_plan.specs.LoopHeads.{IsHeadReady, stores_at}
use Rattle.sm_plan.specs.Masks.{set_of}
use Rattle.sm_plan.specs.ReadyStates.{AreFormsReady, AreSuccessorsReady}
use Rattle.sm_plan.specs.Successors.{turn_state}
use Rattle.sm_plan.specs.Views.{rest_code, forms_in, stores_in, state_in, successor_in, SymState}

-- over a later table: the kept formula before the loops, what their head has, and the turns where
-- the number of the set is that of one
pub record IsLoopOf (old new : TableValue) (k : ℕ) (st : SymState) (set : ℕ) (keep : Formula)
    (made : LoopParts) : Type 0 where
  pub goals : forms_in (sorts_in new) (trees_in new) made.goals.list.items
      ≡ all_at_stores (stores_in (trees_in old) st.stores)
      (conj (assertion_in (sorts_in old) (trees_in old) (numbered keep)))
  pub stores : stores_in (trees_in new) made.head.stores
      ≡ stores_at k st (set_of set) (trees_in old)
  pub kept : forms_in (sorts_in new) (trees_in new) made.head.kept.value.list.items
      ≡ all_at_stores (stores_at k st (set_of set) (trees_in old))
      (conj (assertion_in (sorts_in old) (trees_in old) (numbered keep)))
  pub guards : guard_forms (sorts_in new) (trees_in new) made.head.guards
      ≡ guards_at (set_of set) (λ (c : Copy). rest_code (of_copy st.rests c))
      (stores_at k st (set_of set) (trees_in old))
  pub turns : nat_le set 15 ≡ true → (facts : List Assertion) →
      map (successor_in (sorts_in new) (trees_in new) facts) made.turns.items
      ≡ map (turn_state (state_in (sorts_in old) (trees_in old) facts st) k (set_of set)
      (assertion_in (sorts_in old) (trees_in old) (numbered keep))) (subsets (set_of set))

-- all of it is ready
pub record IsLoopReady (sorts : Sorts) (trees : List Tree) (made : LoopParts) : Type 0 where
  pub goals : AreFormsReady sorts trees made.goals.list.items
  pub head : IsHeadReady sorts trees made.head
  pub turns : AreSuccessorsReady sorts trees made.turns.items
