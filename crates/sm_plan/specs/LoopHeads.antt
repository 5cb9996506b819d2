-- Private: what the head of loops has, and when it may be gone on from.
use Rattle.std.specs.Prelude.{◌≡◌, ℕ, List}
use Rattle.sm_syntax.specs.claim.ConflictFree.{Copy}
use Rattle.sm_syntax.specs.trees.Copies.{of_copy}
use Rattle.sm_term.specs.declared.formula.Formula.{Formula}
use Rattle.sm_term.specs.Slots.{all_at_stores}
use Rattle.sm_term.specs.Symbolic.{SymbolicStore}
use Rattle.sm_term.specs.Tables.{TableValue, trees_in, sorts_in}
use Rattle.sm_plan.specs.Copies.{Copies}
use Rattle.sm_plan.specs.Successors.{renewed}
use Rattle.sm_plan.specs.Views.{rest_code, forms_in, stores_in, SymState}
use Rattle.sm_syntax.specs.text.Sorts.{Sorts}
use Rattle.sm_term.specs.Terms.{Tree}
use Rattle.sm_plan.specs.declared.turns.Head.{Head}
use Rattle.sm_plan.specs.Heads.{AreGuardsReady, bodies_of, guard_forms, guards_at}
use Rattle.sm_plan.specs.ReadyStates.{AreFormsReady, AreStoresReady, AreStoresFull}

-- the stores, the kept facts and the guards are ready
pub record IsHeadReady (sorts : Sorts) (trees : List Tree) (head : Head) : Type 0 where
  pub stores : AreStoresReady sorts trees head.stores
  pub full : AreStoresFull sorts head.stores
  pub kept : AreFormsReady sorts trees head.kept.value.list.items
  pub guards : AreGuardsReady sorts trees head.guards

-- the stores at the head of the loops of a set
abbrev pub stores_at : ℕ → SymState → Copies → List Tree → Copy → SymbolicStore
stores_at k st set trees =
    renewed k (bodies_of set (λ (c : Copy). rest_code (of_copy st.rests c)))
    (stores_in trees st.stores)

-- the head of the loops of a set, over a later table: new values for what their bodies assign, the
-- kept parts and the guards there
pub record IsHeadOf (old new : TableValue) (k : ℕ) (st : SymState) (set : Copies)
    (parts : List Formula) (head : Head) : Type 0 where
  pub stores : stores_in (trees_in new) head.stores ≡ stores_at k st set (trees_in old)
  pub kept : forms_in (sorts_in new) (trees_in new) head.kept.value.list.items
      ≡ all_at_stores (stores_at k st set (trees_in old))
      (forms_in (sorts_in old) (trees_in old) parts)
  pub guards : guard_forms (sorts_in new) (trees_in new) head.guards
      ≡ guards_at set (λ (c : Copy). rest_code (of_copy st.rests c))
      (stores_at k st set (trees_in old))
