-- What a choice of a copy opens.
use Rattle.sm_plan.proofs.Imports.{◌≡◌, Some, List, [], ◌∷◌, ◌++◌, length, sym, ap, ◌∙◌, subst, Condition, Code, append, Copy, Sorts, IsWellSorted, of_copy, Assertion, negate, numbered, assertion_in, IsFormulaWithin, Formula, SymbolicStore, form_of, IsFormSorted, store_in, SymStore, TableValue, trees_in, sorts_in, ExtendsTable, contrary_negates, contrary_within, with_copy, IsBranch, State, moved, with_facts, branch_state, forms_in, state_in, IsFormReady, IsStateReady, negate_sorted}
use Rattle.sm_syntax.specs.claim.Syntax.{If}
use Rattle.sm_term.specs.Formulas.{contrary}
use Rattle.sm_plan.specs.Nodes as plan
use Rattle.sm_plan.specs.Views.{SymState}
use Rattle.sm_plan.proofs.PartsMoved.{numbers_of, given_same, moved_is, moved_ready}
use Rattle.sm_plan.proofs.TablesWiden.{store_stays, store_ready}

-- the formula of a condition over a store of a ready state, and its contrary
module _ (v w : TableValue) (wider : ExtendsTable v w) (s : SymStore) (b : Condition) (f : Formula)
    (made : assertion_in (sorts_in w) (trees_in w) (numbered f) ≡ form_of b (store_in (trees_in v) s))
    (within : IsFormulaWithin (length (trees_in w)) (numbered f))
    (sorted : IsFormSorted (sorts_in v) (form_of b (store_in (trees_in v) s))) where
  pub fact_ready : IsFormReady (sorts_in w) (trees_in w) f
  fact_ready = (
    within,
    subst (IsFormSorted (sorts_in w)) (sym made)
        (subst (λ (m : Sorts). IsFormSorted m (form_of b (store_in (trees_in v) s))) (sym wider.sorts) sorted),
  )

  module _ (g : Formula) (is : numbered g ≡ contrary (numbered f)) where
    pub contrary_made : assertion_in (sorts_in w) (trees_in w) (numbered g) ≡ negate (form_of b (store_in (trees_in v) s))
    contrary_made = ap (assertion_in (sorts_in w) (trees_in w)) is ∙ contrary_negates (sorts_in w) (trees_in w) (numbered f)
        ∙ ap negate made

    pub contrary_ready : IsFormReady (sorts_in w) (trees_in w) g
    contrary_ready = (
      subst (IsFormulaWithin (length (trees_in w))) (sym is) (contrary_within (length (trees_in w)) (numbered f) within),
      subst (IsFormSorted (sorts_in w)) (sym contrary_made)
          (negate_sorted (sorts_in w) (form_of b (store_in (trees_in v) s))
          (subst (λ (m : Sorts). IsFormSorted m (form_of b (store_in (trees_in v) s))) (sym wider.sorts) sorted)),
    )

-- one branch
module _ (v w : TableValue) (wider : ExtendsTable v w) (st next : SymState) (c : Copy) (k : Code) (branch : IsBranch st next c k)
    (ready : IsStateReady (sorts_in v) (trees_in v) st) where
  same_stores : (d : Copy) → numbers_of (of_copy next.stores d)
      ≡ with_copy (λ (e : Copy). numbers_of (of_copy st.stores e)) c (numbers_of (of_copy st.stores c)) d
  same_stores d = branch.stores d ∙ sym (given_same (λ (e : Copy). numbers_of (of_copy st.stores e)) c d)

  pub branch_is : (facts : List Assertion) (fs : List Formula) (a : Assertion) → forms_in (sorts_in w) (trees_in w) fs ≡ a ∷ []
      → state_in (sorts_in w) (trees_in w) (facts ++ forms_in (sorts_in w) (trees_in w) fs) next
      ≡ branch_state (state_in (sorts_in v) (trees_in v) facts st) c k a
  branch_is facts fs a made =
      let was = state_in (sorts_in v) (trees_in v) facts st in
      let store = of_copy st.stores c in
      ap (λ (l : List Assertion). state_in (sorts_in w) (trees_in w) (facts ++ l) next) made
      ∙ moved_is v w wider st next c k store branch.rests same_stores branch.target branch.is_final ready facts (a ∷ [])
      ∙ ap (λ (s : SymbolicStore). with_facts (moved was c k s) (a ∷ [])) (store_stays v w wider store (ready.stores c).0)

  pub branch_ready : IsWellSorted (sorts_in v) k → IsStateReady (sorts_in w) (trees_in w) next
  branch_ready well = moved_ready v w wider st next c k (of_copy st.stores c) branch.rests same_stores branch.target branch.is_final ready
      well (store_ready v w wider (of_copy st.stores c) (ready.stores c)) (ready.full c)

-- both branches
pub fork_is : (st : State) (c : Copy) (code : Code) (b : Condition) (first second k : Code) → code ≡ If b first second k
    → Some (plan.follows (branch_state st c (append first k) (form_of b (st.stores c)) ∷ branch_state st c (append second k)
    (negate (form_of b (st.stores c))) ∷ [])) ≡ plan.both_ways st c code
fork_is st c code b first second k is = sym (ap (plan.both_ways st c) is)
