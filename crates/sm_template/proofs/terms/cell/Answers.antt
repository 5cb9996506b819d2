-- The side's term, read at the cell.
use Rattle.sm_template.proofs.Imports.{◌≡◌, Some, refl, IfOk, slice_get, ap, subst, ◌∙◌, and_from, Sorts, Num, Arr, Tree, Cell, Read, tree_sort, trees_in, sorts_in, tree_at, TermId, stays_got, tree_got, sort_got, grows-twice, side_tree}
use Rattle.sm_template.proofs.NameShapesLemmas.{side_sorted}
use Rattle.sm_template.proofs.terms.cell.Goals as goal

pub made-requires-2-clause-fits : goal.made-requires-2-clause-fits
made-requires-2-clause-fits c =
    let v = c.args.table.now in
    let u = c.side.new.table in
    let w = c.made.new.table in
    let tree = side_tree c.args.x.0 c.args.s in
    let array = stays_got u w c.made.ensures.grows c.in_ok-t.t.0 _ c.in_ok-t.ensures.made in
    let sort : tree_sort (sorts_in w) tree ≡ Arr =
    ap (λ (f : Sorts). tree_sort f tree) (c.made.ensures.grows.sorts ∙ c.side.ensures.grows.sorts)
    ∙ (side_sorted (sorts_in v) c.args.x.0 Arr c.requires.declared c.args.s c.requires.fits).1 in
    and_from _ _ (sort_got (sorts_in w) (trees_in w) c.in_ok-t.t _ Arr array sort)
    (sort_got (sorts_in w) (trees_in w) c.in_ok-i.i _ Num c.in_ok-i.ensures.stored refl)

pub returns-in_err-i-clause-grows : goal.returns-in_err-i-clause-grows
returns-in_err-i-clause-grows c =
    grows-twice c.args.table.now c.side.new.table c.made.new.table c.side.ensures.grows c.made.ensures.grows

pub returns-clause-grows : goal.returns-clause-grows
returns-clause-grows c =
    let u = c.args.table.now in
    let v = c.made.new.table in
    let first = grows-twice u c.side.new.table v c.side.ensures.grows c.made.ensures.grows in
    grows-twice u v c.made-2.new.table first c.made-2.ensures.grows

pub returns-clause-made : goal.returns-clause-made
returns-clause-made c =
    let u = c.side.new.table in
    let w = c.made.new.table in
    let z = c.made-2.new.table in
    let array = stays_got u w c.made.ensures.grows c.in_ok-t.t.0 _ c.in_ok-t.ensures.made in
    let p : tree_at (trees_in w) c.in_ok-t.t.0 ≡ side_tree c.args.x.0 c.args.s = tree_got (trees_in w) c.in_ok-t.t.0 _ array in
    let q : tree_at (trees_in w) c.in_ok-i.i.0 ≡ Cell = tree_got (trees_in w) c.in_ok-i.i.0 _ c.in_ok-i.ensures.stored in
    subst (λ (t : Tree). IfOk c.made-2.result (λ (id : TermId). slice_get (trees_in z) id.0 ≡ Some t)) (λ k. Read (p k) (q k))
    c.made-2.ensures.stored
