-- The target over the stores of the state.
use Rattle.sm_plan.proofs.Imports.{◌≡◌, Bool, true, List, [], Some, map, inr, sym, ap, subst, ◌∙◌, Copy, of_copy, Formula, Assertion, all_at_stores, trees_in, sorts_in, each, AreStoresReady, AreSuccessorsReady, is_over, rest_code, forms_in, stores_in, successor_in}
use Rattle.sm_plan.specs.Nodes as plan
use Rattle.sm_plan.specs.Views.{SymState}
use Rattle.sm_plan.proofs.TablesWiden.{stores_stay, stores_ready}
use Rattle.sm_plan.proofs.ends.open_end.Goals as goal

pub returns-clause-opened : goal.returns-clause-opened
returns-clause-opened c =
    let v = c.args.table.now in
    let w = c.at_stores.new.table in
    let wider = c.at_stores.ensures.widens in
    let st : SymState = c.args.state in
    let target : c.deref-2.result.now ≡ st.target.value.list.items = c.deref-2.ensures.value ∙ ap (λ fs. fs.list.items) c.deref.ensures in
    let goals : forms_in (sorts_in w) (trees_in w) c.in_ok-goals.goals.list.items
    ≡ all_at_stores (stores_in (trees_in v) st.stores) (forms_in (sorts_in v) (trees_in v) st.target.value.list.items) =
    c.in_ok-goals.ensures.made
    ∙ ap (λ (fs : List Formula). all_at_stores (stores_in (trees_in v) st.stores) (forms_in (sorts_in v) (trees_in v) fs)) target in
    let over : c.all_over.result ≡ true = cc in
    let test : each (λ (d : Copy). is_over (rest_code (of_copy st.rests d))) ≡ true = sym c.all_over.ensures ∙ over in
    let none : c.new.result.items ≡ [] = c.new.ensures.items in
    record {
      opened = λ (facts : List Assertion).
          (λ i. Some (record { goals = goals i; states = map (successor_in (sorts_in w) (trees_in w) facts) (none i) }))
          ∙ sym (ap (λ (b : Bool).
          plan.where_true b (plan.asks
          (all_at_stores (stores_in (trees_in v) st.stores) (forms_in (sorts_in v) (trees_in v) st.target.value.list.items)))) test);
      stores = inr (ap (stores_in (trees_in w)) c.into_stores.ensures ∙ stores_stay v w wider st.stores c.requires.stores);
      ready = subst (AreSuccessorsReady (sorts_in w) (trees_in w)) (sym none) tt;
      goals = c.in_ok-goals.ensures.ready;
      asking = subst (AreStoresReady (sorts_in w) (trees_in w)) (sym c.into_stores.ensures)
          (stores_ready v w wider st.stores c.requires.stores);
    }
