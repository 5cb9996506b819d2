-- What is opened where one state follows, or two.
use Rattle.sm_plan.proofs.Imports.{◌≡◌, Option, Some, List, [], map, inl, sym, ap, ◌∙◌, subst, Sorts, Formula, Assertion, Tree, TableValue, trees_in, sorts_in, IsOpening, State, with_facts, forms_in, successor_in, AreFormsReady, AreSuccessorsReady, AreStoresReady}
use Rattle.std.proofs.Common.{append-nil}
use Rattle.sm_plan.specs.Nodes as plan
use Rattle.sm_plan.specs.Views.{SymState, Opened}

-- no more facts
pub no_facts : (st : State) → with_facts st [] ≡ st
no_facts st = λ i. record { rest = st.rest; stores = st.stores; facts = append-nil st.facts i; target = st.target; is_final = st.is_final }

-- without goals
pub opening_states : (v w : TableValue) (st : SymState) (want : List Assertion → Option plan.Opened) (o : Opened) →
    o.goals.list.items ≡ [] →
    ((sorts : Sorts) (trees : List Tree) → AreStoresReady sorts trees o.stores) →
    AreSuccessorsReady (sorts_in w) (trees_in w) o.states.items →
    ((facts : List Assertion) → Some (plan.follows (map (successor_in (sorts_in w) (trees_in w) facts) o.states.items)) ≡ want facts) →
    IsOpening v w st want (Some o)
opening_states v w st want o goals asking ready is = record {
  opened = λ (facts : List Assertion).
      let states = map (successor_in (sorts_in w) (trees_in w) facts) o.states.items in
      ap (λ (gs : List Formula). Some (record { goals = forms_in (sorts_in w) (trees_in w) gs; states = states })) goals ∙ is facts;
  stores = inl goals;
  ready = ready;
  goals = subst (AreFormsReady (sorts_in w) (trees_in w)) (sym goals) tt;
  asking = asking (sorts_in w) (trees_in w);
}
