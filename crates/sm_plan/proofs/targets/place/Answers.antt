-- The slot, or the array's element at the cell.
use Rattle.sm_plan.proofs.Imports.{◌≡◌, Some, refl, slice_get, sym, ap, subst, ◌∙◌, and_from, Copy, copy_of, Sorts, Sort, Num, Arr, copy_named, Tree, Slot, Read, sort_named, trees_in, sorts_in, tree_at, TermId, stays_got, tree_got, sort_got, grows-twice, place}
use Rattle.std.proofs.Common.{IfOk}
use Rattle.sm_term.specs.Terms.{Cell}
use Rattle.sm_plan.proofs.SortedTerms.{sort_is}
use Rattle.sm_plan.proofs.TargetsMade.{copy_back}
use Rattle.sm_plan.proofs.targets.place.Goals as goal

pub made-requires-in-Arr-2-clause-fits : goal.made-requires-in-Arr-2-clause-fits
made-requires-in-Arr-2-clause-fits c =
    let v = c.args.table.now in
    let u = c.made.new.table in
    let w = c.made-in-Arr.new.table in
    let x = c.args.x.0 in
    let slot = stays_got u w c.made-in-Arr.ensures.grows c.in_ok-t.t.0 _ c.in_ok-t.ensures.stored in
    let sort : sort_named (sorts_in w) x ≡ Arr =
    ap (λ (f : Sorts). sort_named f x) (c.made-in-Arr.ensures.grows.sorts ∙ c.made.ensures.grows.sorts)
    ∙ sort_is (sorts_in v) x c.args.sort c.requires ∙ c.in-Arr.is in
    and_from _ _ (sort_got (sorts_in w) (trees_in w) c.in_ok-t.t _ Arr slot sort)
    (sort_got (sorts_in w) (trees_in w) c.in_ok-i-in-Arr.i _ Num c.in_ok-i-in-Arr.ensures.stored refl)

pub returns-in_err-i-in-Arr-clause-grows : goal.returns-in_err-i-in-Arr-clause-grows
returns-in_err-i-in-Arr-clause-grows c =
    grows-twice c.args.table.now c.made.new.table c.made-in-Arr.new.table c.made.ensures.grows c.made-in-Arr.ensures.grows

pub returns-in_ok-i-in-Arr-clause-grows : goal.returns-in_ok-i-in-Arr-clause-grows
returns-in_ok-i-in-Arr-clause-grows c =
    let v = c.args.table.now in
    let w = c.made-in-Arr.new.table in
    grows-twice v w c.made-in-Arr-2.new.table (grows-twice v c.made.new.table w c.made.ensures.grows c.made-in-Arr.ensures.grows)
    c.made-in-Arr-2.ensures.grows

pub returns-in_ok-i-in-Arr-clause-made : goal.returns-in_ok-i-in-Arr-clause-made
returns-in_ok-i-in-Arr-clause-made c =
    let u = c.made.new.table in
    let w = c.made-in-Arr.new.table in
    let z = c.made-in-Arr-2.new.table in
    let x = c.args.x.0 in
    let k = copy_named c.args.copy in
    let slot = stays_got u w c.made-in-Arr.ensures.grows c.in_ok-t.t.0 _ c.in_ok-t.ensures.stored in
    let p : tree_at (trees_in w) c.in_ok-t.t.0 ≡ Slot k x =
    tree_got (trees_in w) c.in_ok-t.t.0 _ slot ∙ ap (λ (d : Copy). Slot d x) (ap copy_of c.number.ensures ∙ copy_back k) in
    let q : tree_at (trees_in w) c.in_ok-i-in-Arr.i.0 ≡ Cell =
    tree_got (trees_in w) c.in_ok-i-in-Arr.i.0 _ c.in_ok-i-in-Arr.ensures.stored in
    let same : Read (tree_at (trees_in w) c.in_ok-t.t.0) (tree_at (trees_in w) c.in_ok-i-in-Arr.i.0) ≡ place (x, c.args.sort) k =
    (λ i. Read (p i) (q i)) ∙ ap (λ (s : Sort). place (x, s) k) (sym c.in-Arr.is) in
    subst (λ (t : Tree). IfOk c.made-in-Arr-2.result (λ (id : TermId). slice_get (trees_in z) id.0 ≡ Some t)) same
    c.made-in-Arr-2.ensures.stored
