-- The slot, the literal and their sum.
use Rattle.sm_template.proofs.Imports.{◌≡◌, Some, refl, IfOk, slice_get, ap, subst, ◌∙◌, w128, and_from, to_z-of_z, Sorts, Num, copy_named, Tree, Lit, Slot, Add, sort_named, trees_in, sorts_in, tree_at, TermId, stays_got, tree_got, sort_got, grows-twice, sort_is}
use Rattle.sm_template.proofs.terms.above.Goals as goal

pub made-requires-2-clause-fits : goal.made-requires-2-clause-fits
made-requires-2-clause-fits c =
    let v = c.args.table.now in
    let u = c.slot.new.table in
    let w = c.made.new.table in
    let x = c.args.x.0 in
    let slot = stays_got u w c.made.ensures.grows c.in_ok-t.t.0 _ c.in_ok-t.ensures.made in
    let sort : sort_named (sorts_in w) x ≡ Num =
    ap (λ (f : Sorts). sort_named f x) (c.made.ensures.grows.sorts ∙ c.slot.ensures.grows.sorts)
    ∙ sort_is (sorts_in v) x Num c.requires in
    and_from _ _ (sort_got (sorts_in w) (trees_in w) c.in_ok-t.t _ Num slot sort)
    (sort_got (sorts_in w) (trees_in w) c.in_ok-u.u _ Num c.in_ok-u.ensures.stored refl)

pub returns-in_err-u-clause-grows : goal.returns-in_err-u-clause-grows
returns-in_err-u-clause-grows c =
    grows-twice c.args.table.now c.slot.new.table c.made.new.table c.slot.ensures.grows c.made.ensures.grows

pub returns-clause-grows : goal.returns-clause-grows
returns-clause-grows c =
    let u = c.args.table.now in
    let v = c.made.new.table in
    let first = grows-twice u c.slot.new.table v c.slot.ensures.grows c.made.ensures.grows in
    grows-twice u v c.made-2.new.table first c.made-2.ensures.grows

pub returns-clause-made : goal.returns-clause-made
returns-clause-made c =
    let u = c.slot.new.table in
    let w = c.made.new.table in
    let z = c.made-2.new.table in
    let slot = stays_got u w c.made.ensures.grows c.in_ok-t.t.0 _ c.in_ok-t.ensures.made in
    let p : tree_at (trees_in w) c.in_ok-t.t.0 ≡ Slot (copy_named c.args.c) c.args.x.0 = tree_got (trees_in w) c.in_ok-t.t.0 _ slot in
    let q : tree_at (trees_in w) c.in_ok-u.u.0 ≡ Lit c.args.v = tree_got (trees_in w) c.in_ok-u.u.0 _ c.in_ok-u.ensures.stored
    ∙ ap Lit (to_z-of_z w128 c.args.v c.ranges.v) in
    subst (λ (t : Tree). IfOk c.made-2.result (λ (id : TermId). slice_get (trees_in z) id.0 ≡ Some t)) (λ k. Add (p k) (q k))
    c.made-2.ensures.stored
