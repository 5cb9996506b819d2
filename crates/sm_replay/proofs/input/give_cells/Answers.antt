-- Cell by cell, in the order of the indices.
use Rattle.sm_replay.proofs.Imports.{◌≡◌, ℤ, Option, pos, get_or, to_z, of_z, refl, sym, ap, subst, ◌∙◌, rules, w128, object, members_view, meaning, with_cell, Lists, elements}
use Rattle.sm_replay.proofs.UpdatesSound.{cell_turn, none_overridden, all_overridden}
use Rattle.sm_replay.proofs.MembersLemmas.{lists_shuffled}
use Rattle.sm_replay.proofs.input.give_cells.Goals as goal

pub loop-i-init : goal.loop-i-init
loop-i-init c =
    let given : ℤ → Option ℤ = elements (object (members_view c.args.cells.now.entries)) in
    let listed : Lists given c.deref-i-items.result.now =
    subst (Lists given) (sym c.deref-i-items.ensures.value)
    (lists_shuffled given c.in_ok-list.list.items c.sort.new.self.items c.sort.ensures.permutation c.in_ok-list.ensures) in
    record { overriding = none_overridden given c.args.a.0 c.deref-i-items.result.now (meaning c.args.s.now) listed; sorts = refl }

pub loop-i-preserved : goal.loop-i-preserved
loop-i-preserved c =
    let given : ℤ → Option ℤ = elements (object (members_view c.args.cells.now.entries)) in
    let listed : Lists given c.deref-i-items.result.now =
    subst (Lists given) (sym c.deref-i-items.ensures.value)
    (lists_shuffled given c.in_ok-list.list.items c.sort.new.self.items c.sort.ensures.permutation c.in_ok-list.ensures) in
    let cell : ℤ × ℤ = get_or c.deref-i-items.result.now c.loop-i.i-index (pos 0, pos 0) in
    let index : to_z w128 (of_z w128 cell.0) ≡ cell.0 = search rules in
    let number : to_z w128 (of_z w128 cell.1) ≡ cell.1 = search rules in
    let put : meaning c.set_cell.new.self ≡ with_cell (meaning c.loop-i.s) c.args.a.0 cell.0 cell.1 =
    c.in_ok-set_cell.ensures.ok ∙ ap (λ (i : ℤ). with_cell (meaning c.loop-i.s) c.args.a.0 i (to_z w128 (of_z w128 cell.1))) index ∙
    ap (with_cell (meaning c.loop-i.s) c.args.a.0 cell.0) number in
    record {
      overriding =
          cell_turn given c.args.a.0 c.deref-i-items.result.now c.loop-i.i-index (pos 0, pos 0) (meaning c.args.s.now) (meaning c.loop-i.s)
          (meaning c.set_cell.new.self) listed
          c.loop-i-test.true put c.loop-i.invariant.overriding;
      sorts = c.in_ok-set_cell.ensures.sorts ∙ c.loop-i.invariant.sorts;
    }

pub returns-clause-value : goal.returns-clause-value
returns-clause-value c =
    all_overridden (elements (object (members_view c.args.cells.now.entries))) c.args.a.0 c.deref-i-items.result.now c.loop-i.i-index
    (meaning c.args.s.now) (meaning c.loop-i.s) c.loop-i-test.false c.loop-i.invariant.overriding
