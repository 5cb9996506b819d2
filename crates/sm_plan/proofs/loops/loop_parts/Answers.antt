-- Goals, head and turns stand over the last table.
use Rattle.sm_plan.proofs.Imports.{◌≡◌, List, map, ap, sym, subst, ◌∙◌, fun_ext, leb-true, Code, Copy, Sorts, IsWellSorted, of_copy, Assertion, conj, numbered, assertion_in, Formula, all_at_stores, SymbolicStore, trees_in, sorts_in, Formulas, Copies, subsets, stores_at, set_of, AreFormsReady, State, renewed, turn_state, rest_code, forms_in, stores_in, state_in}
use Rattle.sm_plan.specs.Heads as heads
use Rattle.sm_plan.specs.Views.{SymState}
use Rattle.sm_plan.proofs.LoopsOpened.{turn_same}
use Rattle.sm_plan.proofs.TablesWiden.{widens_twice, stores_stay, assertion_stays, form_ready, forms_stay, forms_ready, state_ready}
use Rattle.sm_plan.proofs.TurnsMade.{masked}
use Rattle.sm_plan.proofs.loops.loop_parts.Goals as goal

pub at_stores-requires-clause-forms : goal.at_stores-requires-clause-forms
at_stores-requires-clause-forms c =
    let u = c.args.table.now in
    subst (AreFormsReady (sorts_in u) (trees_in u))
    (sym (c.deref-2.ensures.value ∙ ap (λ (f : Formulas). f.list.items) c.deref.ensures))
    (c.in_ok-target.ensures.ready (sorts_in u) (trees_in u) c.requires.keep)

pub head_of-requires-clause-state : goal.head_of-requires-clause-state
head_of-requires-clause-state c = state_ready c.args.table.now c.at_stores.new.table c.at_stores.ensures.widens c.args.state.now
    c.requires.state

pub head_of-requires-clause-parts : goal.head_of-requires-clause-parts
head_of-requires-clause-parts c =
    let u = c.args.table.now in
    let v = c.at_stores.new.table in
    subst (λ (f : Formulas). AreFormsReady (sorts_in v) (trees_in v) f.list.items) (sym c.deref-3.ensures)
    (c.in_ok-target.ensures.ready (sorts_in v) (trees_in v) (form_ready u v c.at_stores.ensures.widens c.args.keep.now c.requires.keep))

pub returns-in_err-head-clause-widens : goal.returns-in_err-head-clause-widens
returns-in_err-head-clause-widens c =
    widens_twice c.args.table.now c.at_stores.new.table c.head_of.new.table c.at_stores.ensures.widens c.head_of.ensures.widens

pub returns-in_err-turns-clause-widens : goal.returns-in_err-turns-clause-widens
returns-in_err-turns-clause-widens c =
    widens_twice c.args.table.now c.at_stores.new.table c.head_of.new.table c.at_stores.ensures.widens c.head_of.ensures.widens

pub returns-clause-widens : goal.returns-clause-widens
returns-clause-widens c =
    widens_twice c.args.table.now c.at_stores.new.table c.head_of.new.table c.at_stores.ensures.widens c.head_of.ensures.widens

pub returns-clause-made : goal.returns-clause-made
returns-clause-made c =
    let u = c.args.table.now in
    let v = c.at_stores.new.table in
    let x = c.head_of.new.table in
    let st : SymState = c.args.state.now in
    let k = c.args.number in
    let set = set_of c.args.set in
    let keep : Formula = c.args.keep.now in
    let form : Assertion = assertion_in (sorts_in u) (trees_in u) (numbered keep) in
    let ready = c.requires.state in
    let to_v = c.at_stores.ensures.widens in
    let from_v = c.head_of.ensures.widens in
    let to_x = widens_twice u v x to_v from_v in
    let rest : Copy → Code = λ (d : Copy). rest_code (of_copy st.rests d) in
    let head = c.in_ok-head.head in
    let made = c.in_ok-head.ensures.made in
    let target : List Formula = c.in_ok-target.target.value.list.items in
    let goals : List Formula = c.in_ok-goals.goals.list.items in
    let parts : c.deref-2.result.now ≡ target = c.deref-2.ensures.value ∙ ap (λ (f : Formulas). f.list.items) c.deref.ensures in
    let given : c.deref-3.result.now.list.items ≡ target = ap (λ (f : Formulas). f.list.items) c.deref-3.ensures in
    let stores_v = stores_stay u v to_v st.stores ready.stores in
    let keep_v : forms_in (sorts_in v) (trees_in v) target ≡ conj form =
    c.in_ok-target.ensures.made (sorts_in v) (trees_in v) ∙ ap conj (assertion_stays u v to_v (numbered keep) c.requires.keep.0) in
    let target_is : forms_in (sorts_in x) (trees_in x) target ≡ conj form =
    c.in_ok-target.ensures.made (sorts_in x) (trees_in x) ∙ ap conj (assertion_stays u x to_x (numbered keep) c.requires.keep.0) in
    let at : Copy → SymbolicStore = stores_at k st set (trees_in u) in
    let at_same : stores_at k st set (trees_in v) ≡ at = ap (renewed k (heads.bodies_of set rest)) stores_v in
    let stores_are : stores_in (trees_in x) head.stores ≡ at = made.stores ∙ at_same in
    let kept_are : forms_in (sorts_in x) (trees_in x) head.kept.value.list.items ≡ all_at_stores at (conj form) =
    made.kept ∙ ap (λ (l : List Formula). all_at_stores (stores_at k st set (trees_in v)) (forms_in (sorts_in v) (trees_in v) l)) given
    ∙ (λ i. all_at_stores (at_same i) (keep_v i)) in
    let guards_are : heads.guard_forms (sorts_in x) (trees_in x) head.guards ≡ heads.guards_at set rest at =
    made.guards ∙ ap (heads.guards_at set rest) at_same in
    record {
      goals = forms_stay v x from_v goals c.in_ok-goals.ensures.ready ∙ c.in_ok-goals.ensures.made
          ∙ ap (λ (l : List Formula). all_at_stores (stores_in (trees_in u) st.stores) (forms_in (sorts_in u) (trees_in u) l)) parts
          ∙ ap (all_at_stores (stores_in (trees_in u) st.stores)) (c.in_ok-target.ensures.made (sorts_in u) (trees_in u));
      stores = stores_are;
      kept = kept_are;
      guards = guards_are;
      turns = λ low (facts : List Assertion).
          let old : State = state_in (sorts_in u) (trees_in u) facts st in
          let stores = stores_in (trees_in x) head.stores in
          let kept = forms_in (sorts_in x) (trees_in x) head.kept.value.list.items in
          let guards = heads.guard_forms (sorts_in x) (trees_in x) head.guards in
          let goal_forms = forms_in (sorts_in x) (trees_in x) target in
          let turn_is : heads.turn_of rest facts stores kept guards goal_forms ≡ turn_state old k set form =
          fun_ext (turn_same k old set form stores kept guards stores_are kept_are guards_are goal_forms target_is) in
          c.in_ok-turns.ensures.made (sorts_in x) (trees_in x) facts
          ∙ masked (heads.turn_of rest facts stores kept guards goal_forms) c.args.set (leb-true c.args.set 15 low)
          ∙ ap (λ (f : Copies → State). map f (subsets set)) turn_is;
    }

pub returns-clause-ready : goal.returns-clause-ready
returns-clause-ready c =
    let u = c.args.table.now in
    let v = c.at_stores.new.table in
    let x = c.head_of.new.table in
    let from_v = c.head_of.ensures.widens in
    let to_x = widens_twice u v x c.at_stores.ensures.widens from_v in
    let well = λ (d : Copy).
    subst (λ (f : Sorts). IsWellSorted f (rest_code (of_copy c.args.state.now.rests d))) (sym to_x.sorts) (c.requires.state.rests d) in
    let target_good : AreFormsReady (sorts_in x) (trees_in x) c.in_ok-target.target.value.list.items =
    c.in_ok-target.ensures.ready (sorts_in x) (trees_in x) (form_ready u x to_x c.args.keep.now c.requires.keep) in
    record {
      goals = forms_ready v x from_v c.in_ok-goals.goals.list.items c.in_ok-goals.ensures.ready;
      head = c.in_ok-head.ensures.ready;
      turns = c.in_ok-turns.ensures.ready (sorts_in x) (trees_in x) well c.in_ok-head.ensures.ready target_good;
    }
