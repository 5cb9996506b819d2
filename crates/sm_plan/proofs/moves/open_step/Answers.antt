-- The state with another rest and another store of the copy.
use Rattle.sm_plan.proofs.Imports.{◌≡◌, Bool, true, List, [], ◌∷◌, ◌++◌, Some, sym, ap, ◌∙◌, subst, refl, copy_named, of_copy, store_in, SymStore, trees_in, sorts_in, done_if, stepped, rest_code, forms_in, state_in, Continuation, with_copy, AreFormsReady, Formula}
use Rattle.sm_plan.specs.Nodes as plan
use Rattle.sm_plan.specs.Views.{SymState}
use Rattle.sm_plan.proofs.OpeningsMade.{opening_states}
use Rattle.sm_plan.proofs.PartsMoved.{numbers_of, exchanged}
use Rattle.sm_plan.proofs.StepsOpened.{IsExchanged, step_ready, step_is}
use Rattle.sm_plan.proofs.moves.open_step.Goals as goal

pub returns-clause-opened : goal.returns-clause-opened
returns-clause-opened c =
    let v = c.args.table.now in
    let w = c.step.new.table in
    let st : SymState = c.args.state in
    let next : SymState = record {
      rests = c.exchange-3.new.all;
      stores = c.exchange-4.new.all;
      target = st.target;
      is_final = st.is_final;
    } in
    let k = copy_named c.args.copy in
    let rest : Continuation = c.exchange.new.one in
    let new_rest : Continuation = c.step.new.rest in
    let store : SymStore = c.exchange-2.new.one in
    let new_store : SymStore = c.step.new.store in
    let rests_1 : of_copy c.exchange.new.all ≡ with_copy (of_copy st.rests) k c.empty-rest.result = c.exchange.ensures.all in
    let rests_2 : of_copy next.rests ≡ with_copy (of_copy c.exchange.new.all) k new_rest = c.exchange-3.ensures.all in
    let stores_1 : of_copy c.exchange-2.new.all ≡ with_copy (of_copy st.stores) k c.no_terms-store.result = c.exchange-2.ensures.all in
    let stores_2 : of_copy next.stores ≡ with_copy (of_copy c.exchange-2.new.all) k new_store = c.exchange-4.ensures.all in
    let ex : IsExchanged st next k rest new_rest store new_store =
    record {
      rest_was = c.exchange.ensures.one;
      store_was = c.exchange-2.ensures.one;
      rests = exchanged rest_code (of_copy st.rests) (of_copy c.exchange.new.all) (of_copy next.rests) k c.empty-rest.result new_rest
          rests_1 rests_2;
      stores = exchanged numbers_of (of_copy st.stores) (of_copy c.exchange-2.new.all) (of_copy next.stores) k c.no_terms-store.result
          new_store stores_1 stores_2;
      target = refl;
      is_final = refl;
    } in
    let is : c.in_ok-is_done.is_done ≡ true = cc in
    let done : Some (rest_code new_rest, store_in (trees_in w) new_store) ≡ stepped (rest_code rest) (store_in (trees_in v) store) =
    ap (λ (b : Bool). done_if b (rest_code new_rest) (store_in (trees_in w) new_store)) (sym is) ∙ c.in_ok-is_done.ensures.stepped in
    let within = c.in_ok-is_done.ensures.within in
    let len = c.step.ensures.len in
    let grows = c.step.ensures.grows in
    let ready = c.requires in
    let o = c.in_ok-opened.opened in
    let none = c.no_formulas.ensures in
    let next_ready = step_ready v w grows st next k rest new_rest store new_store ex ready done within len in
    let facts_ready : AreFormsReady (sorts_in w) (trees_in w) c.no_formulas.result.list.items =
    subst (AreFormsReady (sorts_in w) (trees_in w)) (sym none) tt in
    opening_states v w st _ o c.in_ok-opened.ensures.goals c.in_ok-opened.ensures.asking
    (c.in_ok-opened.ensures.ready (sorts_in w) (trees_in w) next_ready facts_ready)
    (λ facts.
    ap (λ l. Some (plan.follows l))
    (c.in_ok-opened.ensures.states (sorts_in w) (trees_in w) facts
    ∙ ap (λ (fs : List Formula). state_in (sorts_in w) (trees_in w) (facts ++ forms_in (sorts_in w) (trees_in w) fs) next ∷ []) none)
    ∙ step_is v w grows st next k rest new_rest store new_store ex ready done within len facts)
