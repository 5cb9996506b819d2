-- What is kept stands over the table with new values, and all of it over the last one.
use Rattle.sm_plan.proofs.Imports.{◌∙◌, sym, ap, subst, Copy, IsWellSorted, of_copy, conj, numbered, Formula, all_at_stores, trees_in, sorts_in, rest_code}
use Rattle.sm_plan.proofs.SortedCode.{front_well}
use Rattle.sm_plan.proofs.TablesWiden.{widens_grown, widens_twice, stores_stay, stores_ready, stores_full, assertion_stays, form_ready}
use Rattle.sm_plan.proofs.blocks.block_parts.Goals as goal

pub renewed_stores-requires-clause-done : goal.renewed_stores-requires-clause-done
renewed_stores-requires-clause-done c = λ (d : Copy).
    subst (IsWellSorted (sorts_in c.args.table.now)) (sym (c.in_ok-done.ensures d))
    (front_well (sorts_in c.args.table.now) (of_copy c.args.counts.now d) (rest_code (of_copy c.args.state.now.rests d))
    (c.requires.state.rests d))

pub kept_forms-requires-clause-keep : goal.kept_forms-requires-clause-keep
kept_forms-requires-clause-keep c =
    let u = c.args.table.now in
    let v = c.renewed_stores.new.table in
    form_ready u v (widens_grown u v c.renewed_stores.ensures.grows) c.args.keep.now c.requires.keep

pub returns-in_err-stores-clause-widens : goal.returns-in_err-stores-clause-widens
returns-in_err-stores-clause-widens c = widens_grown c.args.table.now c.renewed_stores.new.table c.renewed_stores.ensures.grows

pub returns-in_err-target-clause-widens : goal.returns-in_err-target-clause-widens
returns-in_err-target-clause-widens c =
    let u = c.args.table.now in
    let v = c.renewed_stores.new.table in
    let w = c.kept_forms.new.table in
    widens_twice u v w (widens_grown u v c.renewed_stores.ensures.grows) c.kept_forms.ensures.widens

pub returns-clause-widens : goal.returns-clause-widens
returns-clause-widens c =
    let u = c.args.table.now in
    let v = c.renewed_stores.new.table in
    let w = c.kept_forms.new.table in
    widens_twice u v w (widens_grown u v c.renewed_stores.ensures.grows) c.kept_forms.ensures.widens

pub returns-clause-made : goal.returns-clause-made
returns-clause-made c =
    let u = c.args.table.now in
    let v = c.renewed_stores.new.table in
    let w = c.kept_forms.new.table in
    let keep : Formula = c.args.keep.now in
    let to_v = widens_grown u v c.renewed_stores.ensures.grows in
    let to_w = widens_twice u v w to_v c.kept_forms.ensures.widens in
    let s = c.in_ok-stores.stores in
    let same = stores_stay v w c.kept_forms.ensures.widens s c.in_ok-stores.ensures.ready in
    let form = assertion_stays u v to_v (numbered keep) c.requires.keep.0 in
    record {
      done = c.in_ok-done.ensures;
      stores = same ∙ c.in_ok-stores.ensures.made;
      target = c.in_ok-target.ensures.parts (sorts_in w) (trees_in w)
          ∙ ap conj (assertion_stays u w to_w (numbered keep) c.requires.keep.0);
      kept = c.in_ok-target.ensures.kept ∙ (λ i. all_at_stores (sym same i) (conj (form i)));
    }

pub returns-clause-ready : goal.returns-clause-ready
returns-clause-ready c =
    let u = c.args.table.now in
    let v = c.renewed_stores.new.table in
    let w = c.kept_forms.new.table in
    let to_w = widens_twice u v w (widens_grown u v c.renewed_stores.ensures.grows) c.kept_forms.ensures.widens in
    let s = c.in_ok-stores.stores in
    record {
      stores = stores_ready v w c.kept_forms.ensures.widens s c.in_ok-stores.ensures.ready;
      full = stores_full v w c.kept_forms.ensures.widens s c.in_ok-stores.ensures.full;
      target = c.in_ok-target.ensures.parts_ready (sorts_in w) (trees_in w) (form_ready u w to_w c.args.keep.now c.requires.keep);
      kept = c.in_ok-target.ensures.kept_ready;
    }
