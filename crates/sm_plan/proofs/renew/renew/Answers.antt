-- One name more has its new value.
use Rattle.sm_plan.proofs.Imports.{◌<◌, ◌∙◌, ℕ, Some, sym, subst, ap, length, get_or, arith, Copy, copy_of, Sorts, copy_named, IsDeclaredIn, Havoc, SymbolicStore, with_term, store_in, trees_in, sorts_in, grows-twice}
use Rattle.std.proofs.lemmas.List.{length-set}
use Rattle.sm_plan.proofs.RenewedStores.{number_below, name_among, place_inside, new_push}
use Rattle.sm_plan.proofs.StoresSet.{store_written, within_written}
use Rattle.sm_plan.proofs.renew.renew.Goals as goal
use Rattle.sm_plan.proofs.TargetsMade.{copy_back}

pub made-requires-clause-within : goal.made-requires-clause-within
made-requires-clause-within c =
    let x = (get_or c.args.names.now c.loop-name.name-index _).0 in
    let declared = c.requires.declared x (name_among c.args.names.now c.loop-name.name-index _ c.loop-name-test.true) in (
      subst (λ (n : ℕ). n < 4) (sym c.number.ensures) (number_below (copy_named c.args.copy)),
      subst (λ (sorts : Sorts). IsDeclaredIn sorts x) (sym c.loop-name.invariant.grows.sorts) declared,
    )

pub put-requires : goal.put-requires
put-requires c =
    place_inside (sorts_in c.args.table.now) c.args.names.now c.loop-name.name-index _ c.args.store.now c.loop-name.store
    c.requires.declared c.requires.full
    c.loop-name.invariant.len c.loop-name-test.true

pub loop-name-preserved : goal.loop-name-preserved
loop-name-preserved c =
    let v = c.loop-name.table in
    let w = c.made.new.table in
    let k = c.args.number in
    let copy = copy_named c.args.copy in
    let x = (get_or c.args.names.now c.loop-name.name-index _).0 in
    let old = store_in (trees_in c.args.table.now) c.args.store.now in
    let declared = c.requires.declared x (name_among c.args.names.now c.loop-name.name-index _ c.loop-name-test.true) in
    let same = c.loop-name.invariant.len in
    let inside : x < length c.loop-name.store.list.items = let first = c.requires.full x declared in omega arith in
    let stored = c.in_ok-t.ensures.stored ∙ ap (λ (d : Copy). Some (Havoc k d x)) (ap copy_of c.number.ensures ∙ copy_back copy) in
    let items = c.put.ensures in
    record {
      made = store_written v w c.made.ensures.grows c.loop-name.store c.put.new.store x c.in_ok-t.t (Havoc k copy x)
          c.loop-name.invariant.within inside items stored
          ∙ ap (λ (s : SymbolicStore). with_term s x (Havoc k copy x)) c.loop-name.invariant.made
          ∙ new_push k copy c.args.names.now c.loop-name.name-index _ old c.loop-name-test.true;
      within = within_written v w c.made.ensures.grows c.loop-name.store c.put.new.store x c.in_ok-t.t (Havoc k copy x)
          c.loop-name.invariant.within items stored;
      len = ap length items ∙ length-set c.loop-name.store.list.items x c.in_ok-t.t ∙ same;
      grows = grows-twice c.args.table.now v w c.loop-name.invariant.grows c.made.ensures.grows;
    }
