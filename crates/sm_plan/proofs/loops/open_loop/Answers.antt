-- The goals and the states are those of the node.
use Rattle.sm_plan.proofs.Imports.{◌≡◌, ◌&&◌, ◌||◌, not, nat_le, Bool, if◌then◌else◌, List, [], ◌∷◌, ◌++◌, map, Some, inr, sym, ap, ◌∙◌, subst, and_parts, Code, Copy, of_copy, Assertion, conj, numbered, assertion_in, Formula, all_at_stores, trees_in, sorts_in, subsets, set_of, AreFormsReady, AreStoresReady, State, is_loop, turn_state, after_loops_state, rest_code, forms_in, stores_in, state_in, successor_in}
use Rattle.sm_plan.specs.Copies as sets
use Rattle.sm_plan.specs.Heads as heads
use Rattle.sm_plan.specs.Limits as limits
use Rattle.sm_plan.specs.Nodes as plan
use Rattle.sm_plan.specs.Views.{SymState}
use Rattle.sm_plan.proofs.LoopsOpened.{after_same}
use Rattle.sm_plan.proofs.TablesWiden.{stores_stay, stores_ready, forms_stay, state_ready}
use Rattle.sm_plan.proofs.loops.open_loop.Goals as goal

pub returns-clause-opening : goal.returns-clause-opening
returns-clause-opening c =
    let u = c.args.table.now in
    let x = c.loop_parts.new.table in
    let wider = c.loop_parts.ensures.widens in
    let st : SymState = c.args.state in
    let k = c.args.number in
    let set = set_of c.args.set in
    let keep : Formula = c.args.keep.now in
    let form : Assertion = assertion_in (sorts_in u) (trees_in u) (numbered keep) in
    let ready = c.requires.state in
    let rest : Copy → Code = λ (d : Copy). rest_code (of_copy st.rests d) in
    let made = c.in_ok-made.made in
    let is = c.in_ok-made.ensures.made in
    let good = c.in_ok-made.ensures.ready in
    let o = c.in_ok-opened.opened in
    let ends = c.in_ok-opened.ensures in
    let there = state_ready u x wider st ready in
    let test : Bool = sets.is_inhabited set
    && (sets.each (λ (d : Copy). not (sets.has set d) || is_loop (rest d)) && limits.is_kept form) in
    let both = and_parts (nat_le c.args.set 15) test (sym (c.may_loop.ensures (sorts_in u) (trees_in u)) ∙ c.if-not-may_loop.false) in
    record {
      opened = λ (facts : List Assertion).
          let old : State = state_in (sorts_in u) (trees_in u) facts st in
          let stores = stores_in (trees_in x) made.head.stores in
          let kept = forms_in (sorts_in x) (trees_in x) made.head.kept.value.list.items in
          let guards = heads.guard_forms (sorts_in x) (trees_in x) made.head.guards in
          let target = forms_in (sorts_in x) (trees_in x) st.target.value.list.items in
          let turns_are = is.turns both.0 facts in
          let after_is : heads.after_of rest facts stores kept guards target st.is_final set ≡ after_loops_state old k set form =
          after_same k old set form stores kept guards is.stores is.kept is.guards target
          (forms_stay u x wider st.target.value.list.items ready.target) in
          let states_are : map (successor_in (sorts_in x) (trees_in x) facts) o.states.items
          ≡ map (turn_state old k set form) (subsets set) ++ after_loops_state old k set form ∷ [] =
          ends.states (sorts_in x) (trees_in x) facts ∙ (λ i. turns_are i ++ after_is i ∷ []) in
          let goals_are = ap (forms_in (sorts_in x) (trees_in x)) ends.goals ∙ is.goals in
          let want : plan.Opened = record {
            goals = all_at_stores (stores_in (trees_in u) st.stores) (conj form);
            states = map (turn_state old k set form) (subsets set) ++ after_loops_state old k set form ∷ [];
          } in
          (λ i. Some (record {
            goals = goals_are i;
            states = states_are i;
          }))
          ∙ sym (ap (λ (b : Bool). plan.where_true b want) both.1)
          ∙ sym (ap (λ (b : Bool). plan.opened_by k old (if b then plan.Loop set form else plan.Unfit 4)) both.0);
      stores = inr (ap (stores_in (trees_in x)) ends.stores ∙ stores_stay u x wider st.stores ready.stores);
      ready = ends.ready (sorts_in x) (trees_in x) there.rests good.head there.target good.turns;
      goals = subst (AreFormsReady (sorts_in x) (trees_in x)) (sym ends.goals) good.goals;
      asking = subst (AreStoresReady (sorts_in x) (trees_in x)) (sym ends.stores) (stores_ready u x wider st.stores ready.stores);
    }
