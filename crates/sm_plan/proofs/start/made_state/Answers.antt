-- The whole programs, the start values, the assumption's facts and the goals of all outputs.
use Rattle.sm_plan.proofs.Imports.{◌≡◌, ℕ, true, List, length, sym, ap, subst, ◌∙◌, arith, flat_map, fun_ext, Copy, sort_of, sorted_outputs, Sorts, IsWellSorted, Sort, of_copy, declared_of, outputs_of, SymStore, Assertion, IsStoreSorted, IsDeclaredIn, trees_in, sorts_in, grows-twice, IsStoreReady, AreFormsReady, AreOutputsDeclared, with_sorts, place, keeps_goals, rest_code, forms_in}
use Rattle.std.proofs.Common.{is_some}
use Rattle.sm_plan.specs.Views.{SymState}
use Rattle.sm_plan.proofs.PartsMoved.{listed, AreListed}
use Rattle.sm_plan.proofs.SortedStates.{start_store_sorted}
use Rattle.sm_plan.proofs.StartsMade.{declared_below}
use Rattle.sm_plan.proofs.TablesWiden.{widens_grown, store_stays, store_ready, forms_stay, forms_ready}
use Rattle.sm_plan.proofs.start.made_state.Goals as goal

pub start_facts-requires-clause-ready : goal.start_facts-requires-clause-ready
start_facts-requires-clause-ready c =
    let v1 = c.start_store.new.table in
    (c.in_ok-store.ensures.within, subst (IsStoreSorted (sorts_in v1)) (sym c.in_ok-store.ensures.store) (start_store_sorted (sorts_in v1)))

pub target-requires : goal.target-requires
target-requires c =
    let v1 = c.start_store.new.table in
    let v2 = c.start_facts.new.table in
    let declared = declared_of c.args.decls.now in
    let e1 : sorts_in v1 ≡ sort_of declared = c.start_store.ensures.grows.sorts ∙ c.requires.declared in
    let e2 : sorts_in v2 ≡ sort_of declared = c.start_facts.ensures.grows.sorts ∙ e1 in
    subst (λ (f : Sorts). AreOutputsDeclared f (with_sorts f (outputs_of c.args.outputs.now))) (sym e2) c.requires.outputs

pub returns-in_err-store-clause-widens : goal.returns-in_err-store-clause-widens
returns-in_err-store-clause-widens c = widens_grown c.args.table.now c.start_store.new.table c.start_store.ensures.grows

pub returns-in_err-facts-clause-widens : goal.returns-in_err-facts-clause-widens
returns-in_err-facts-clause-widens c =
    let v0 = c.args.table.now in
    let v2 = c.start_facts.new.table in
    widens_grown v0 v2 (grows-twice v0 c.start_store.new.table v2 c.start_store.ensures.grows c.start_facts.ensures.grows)

pub returns-in_err-goals-clause-widens : goal.returns-in_err-goals-clause-widens
returns-in_err-goals-clause-widens c =
    let v0 = c.args.table.now in
    let v1 = c.start_store.new.table in
    let v2 = c.start_facts.new.table in
    let v3 = c.target.new.table in
    widens_grown v0 v3 (grows-twice v0 v1 v3 c.start_store.ensures.grows
    (grows-twice v1 v2 v3 c.start_facts.ensures.grows c.target.ensures.grows))

pub returns-in_err-state-clause-widens : goal.returns-in_err-state-clause-widens
returns-in_err-state-clause-widens c =
    let v0 = c.args.table.now in
    let v1 = c.start_store.new.table in
    let v2 = c.start_facts.new.table in
    let v3 = c.target.new.table in
    widens_grown v0 v3 (grows-twice v0 v1 v3 c.start_store.ensures.grows
    (grows-twice v1 v2 v3 c.start_facts.ensures.grows c.target.ensures.grows))

pub returns-clause-widens : goal.returns-clause-widens
returns-clause-widens c =
    let v0 = c.args.table.now in
    let v1 = c.start_store.new.table in
    let v2 = c.start_facts.new.table in
    let v3 = c.target.new.table in
    widens_grown v0 v3 (grows-twice v0 v1 v3 c.start_store.ensures.grows
    (grows-twice v1 v2 v3 c.start_facts.ensures.grows c.target.ensures.grows))

pub returns-clause-facts : goal.returns-clause-facts
returns-clause-facts c = forms_ready c.start_facts.new.table c.target.new.table
    (widens_grown c.start_facts.new.table c.target.new.table c.target.ensures.grows) c.in_ok-facts.facts.list.items
    c.in_ok-facts.ensures.ready

pub returns-clause-start : goal.returns-clause-start
returns-clause-start c =
    let v1 = c.start_store.new.table in
    let v2 = c.start_facts.new.table in
    let declared = declared_of c.args.decls.now in
    let e1 : sorts_in v1 ≡ sort_of declared = c.start_store.ensures.grows.sorts ∙ c.requires.declared in
    let e2 : sorts_in v2 ≡ sort_of declared = c.start_facts.ensures.grows.sorts ∙ e1 in
    let store : SymStore = c.in_ok-store.store in
    let v3 = c.target.new.table in
    let g13 = grows-twice v1 v2 v3 c.start_facts.ensures.grows c.target.ensures.grows in
    let w13 = widens_grown v1 v3 g13 in
    let w23 = widens_grown v2 v3 c.target.ensures.grows in
    let names = outputs_of c.args.outputs.now in
    let state : SymState = c.in_ok-state.state in
    let goals : List (ℕ × Sort) → List Assertion = flat_map (λ (o : ℕ × Sort). keeps_goals (place o)) in
    let rest = fun_ext c.in_ok-state.ensures.rests in
    let one_store = store_stays v1 v3 w13 store c.in_ok-store.ensures.within ∙ c.in_ok-store.ensures.store in
    let stores = fun_ext (λ (d : Copy). ap (listed (trees_in v3)) (c.in_ok-state.ensures.stores d) ∙ one_store) in
    let facts = forms_stay v2 v3 w23 c.in_ok-facts.facts.list.items c.in_ok-facts.ensures.ready ∙ c.in_ok-facts.ensures.made in
    let target : forms_in (sorts_in v3) (trees_in v3) state.target.value.list.items ≡ goals (sorted_outputs declared names) =
    ap (forms_in (sorts_in v3) (trees_in v3)) c.in_ok-state.ensures.target ∙ c.in_ok-goals.ensures.made
    ∙ ap (λ (f : Sorts). goals (with_sorts f names)) e2 in
    λ i. record {
      rest = rest i;
      stores = stores i;
      facts = facts i;
      target = target i;
      is_final = c.in_ok-state.ensures.is_final i;
    }

pub returns-clause-ready : goal.returns-clause-ready
returns-clause-ready c =
    let v0 = c.args.table.now in
    let v1 = c.start_store.new.table in
    let v2 = c.start_facts.new.table in
    let declared = declared_of c.args.decls.now in
    let e1 : sorts_in v1 ≡ sort_of declared = c.start_store.ensures.grows.sorts ∙ c.requires.declared in
    let e2 : sorts_in v2 ≡ sort_of declared = c.start_facts.ensures.grows.sorts ∙ e1 in
    let store : SymStore = c.in_ok-store.store in
    let store_ready_1 : IsStoreReady (sorts_in v1) (trees_in v1) store = (
      c.in_ok-store.ensures.within,
      subst (IsStoreSorted (sorts_in v1)) (sym c.in_ok-store.ensures.store)
          (start_store_sorted (sorts_in v1)),
    ) in
    let v3 = c.target.new.table in
    let e3 : sorts_in v3 ≡ sort_of declared = c.target.ensures.grows.sorts ∙ e2 in
    let g13 = grows-twice v1 v2 v3 c.start_facts.ensures.grows c.target.ensures.grows in
    let w13 = widens_grown v1 v3 g13 in
    let state : SymState = c.in_ok-state.state in
    let s3 : IsStoreReady (sorts_in v3) (trees_in v3) store = store_ready v1 v3 w13 store store_ready_1 in
    record {
      rests = λ (d : Copy).
          subst (λ (f : Sorts). IsWellSorted f (rest_code (of_copy state.rests d))) (c.requires.declared ∙ sym e3)
          (subst (IsWellSorted (sorts_in v0)) (sym (c.in_ok-state.ensures.rests d)) (c.requires.programs d));
      stores = λ (d : Copy). subst (AreListed (sorts_in v3) (trees_in v3)) (sym (c.in_ok-state.ensures.stores d)) s3;
      target = subst (AreFormsReady (sorts_in v3) (trees_in v3)) (sym c.in_ok-state.ensures.target) c.in_ok-goals.ensures.ready;
      full = λ (d : Copy) (x : ℕ) (h : IsDeclaredIn (sorts_in v3) x).
          let below = declared_below declared c.requires.numbered x (ap (λ (f : Sorts). is_some (f x)) (sym e3) ∙ h) in
          let long = ap length (c.in_ok-state.ensures.stores d) ∙ c.in_ok-store.ensures.len in
          omega (arith, below, long);
    }
