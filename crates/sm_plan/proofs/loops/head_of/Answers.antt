-- One table after the other.
use Rattle.sm_plan.proofs.Imports.{◌≡◌, List, ◌∙◌, sym, ap, subst, fun_ext, Code, Copy, Sorts, IsWellSorted, of_copy, Formula, all_at_stores, SymbolicStore, trees_in, sorts_in, has, guards_at, stores_at, set_of, renewed, rest_code, forms_in, stores_in}
use Rattle.sm_plan.proofs.TurnsMade.{bodies_ready}
use Rattle.sm_plan.proofs.TablesWiden.{widens_grown, widens_twice, stores_stay, stores_ready, stores_full, forms_stay, forms_ready}
use Rattle.sm_plan.proofs.loops.head_of.Goals as goal

pub shared_at-requires-clause-forms : goal.shared_at-requires-clause-forms
shared_at-requires-clause-forms c =
    let u = c.args.table.now in
    let v = c.renewed_stores.new.table in
    forms_ready u v (widens_grown u v c.renewed_stores.ensures.grows) c.args.parts.now.list.items c.requires.parts

pub guards-requires-clause-stores : goal.guards-requires-clause-stores
guards-requires-clause-stores c =
    stores_ready c.renewed_stores.new.table c.shared_at.new.table c.shared_at.ensures.widens c.in_ok-stores.stores
    c.in_ok-stores.ensures.ready

pub renewed_stores-requires-clause-done : goal.renewed_stores-requires-clause-done
renewed_stores-requires-clause-done c = λ (d : Copy).
    let sorts = sorts_in c.args.table.now in
    subst (IsWellSorted sorts) (sym (c.in_ok-done.ensures d))
    (bodies_ready sorts (has (set_of c.args.set) d) (rest_code (of_copy c.args.state.now.rests d)) (c.requires.state.rests d))

pub guards-requires-clause-rests : goal.guards-requires-clause-rests
guards-requires-clause-rests c = λ (d : Copy).
    subst (λ (f : Sorts). IsWellSorted f (rest_code (of_copy c.args.state.now.rests d)))
    (sym (c.shared_at.ensures.widens.sorts ∙ c.renewed_stores.ensures.grows.sorts)) (c.requires.state.rests d)

pub returns-in_err-stores-clause-widens : goal.returns-in_err-stores-clause-widens
returns-in_err-stores-clause-widens c = widens_grown c.args.table.now c.renewed_stores.new.table c.renewed_stores.ensures.grows

pub returns-in_err-kept-clause-widens : goal.returns-in_err-kept-clause-widens
returns-in_err-kept-clause-widens c =
    let u = c.args.table.now in
    let v = c.renewed_stores.new.table in
    widens_twice u v c.shared_at.new.table (widens_grown u v c.renewed_stores.ensures.grows) c.shared_at.ensures.widens

pub returns-in_err-guards-clause-widens : goal.returns-in_err-guards-clause-widens
returns-in_err-guards-clause-widens c =
    let u = c.args.table.now in
    let v = c.renewed_stores.new.table in
    let w = c.shared_at.new.table in
    let x = c.guards.new.table in
    widens_twice u w x (widens_twice u v w (widens_grown u v c.renewed_stores.ensures.grows) c.shared_at.ensures.widens)
    (widens_grown w x c.guards.ensures.grows)

pub returns-clause-widens : goal.returns-clause-widens
returns-clause-widens c =
    let u = c.args.table.now in
    let v = c.renewed_stores.new.table in
    let w = c.shared_at.new.table in
    let x = c.guards.new.table in
    widens_twice u w x (widens_twice u v w (widens_grown u v c.renewed_stores.ensures.grows) c.shared_at.ensures.widens)
    (widens_grown w x c.guards.ensures.grows)

pub returns-clause-made : goal.returns-clause-made
returns-clause-made c =
    let u = c.args.table.now in
    let v = c.renewed_stores.new.table in
    let w = c.shared_at.new.table in
    let x = c.guards.new.table in
    let st = c.args.state.now in
    let k = c.args.number in
    let set = set_of c.args.set in
    let parts : List Formula = c.args.parts.now.list.items in
    let rest : Copy → Code = λ (d : Copy). rest_code (of_copy st.rests d) in
    let head : Copy → SymbolicStore = stores_at k st set (trees_in u) in
    let s = c.in_ok-stores.stores in
    let to_v = widens_grown u v c.renewed_stores.ensures.grows in
    let to_x = widens_grown w x c.guards.ensures.grows in
    let ready_w = stores_ready v w c.shared_at.ensures.widens s c.in_ok-stores.ensures.ready in
    let at_v : stores_in (trees_in v) s ≡ head =
    c.in_ok-stores.ensures.made ∙ ap (λ (f : Copy → Code). renewed k f (stores_in (trees_in u) st.stores)) (fun_ext c.in_ok-done.ensures) in
    let at_w : stores_in (trees_in w) s ≡ head = stores_stay v w c.shared_at.ensures.widens s c.in_ok-stores.ensures.ready ∙ at_v in
    let kept : forms_in (sorts_in w) (trees_in w) c.in_ok-kept.kept.value.list.items
    ≡ all_at_stores head (forms_in (sorts_in u) (trees_in u) parts) =
    c.in_ok-kept.ensures.made
    ∙ (λ i. all_at_stores (at_v i) (forms_stay u v to_v parts c.requires.parts i)) in
    record {
      stores = stores_stay w x to_x s ready_w ∙ at_w;
      kept = forms_stay w x to_x c.in_ok-kept.kept.value.list.items c.in_ok-kept.ensures.ready ∙ kept;
      guards = fun_ext c.in_ok-guards.ensures.made ∙ ap (guards_at set rest) at_w;
    }

pub returns-clause-ready : goal.returns-clause-ready
returns-clause-ready c =
    let v = c.renewed_stores.new.table in
    let w = c.shared_at.new.table in
    let x = c.guards.new.table in
    let s = c.in_ok-stores.stores in
    let to_x = widens_grown w x c.guards.ensures.grows in
    record {
      stores = stores_ready w x to_x s (stores_ready v w c.shared_at.ensures.widens s c.in_ok-stores.ensures.ready);
      full = stores_full w x to_x s (stores_full v w c.shared_at.ensures.widens s c.in_ok-stores.ensures.full);
      kept = forms_ready w x to_x c.in_ok-kept.kept.value.list.items c.in_ok-kept.ensures.ready;
      guards = c.in_ok-guards.ensures.ready;
    }
