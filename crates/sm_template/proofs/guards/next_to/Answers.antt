-- The number, 1 and their sum.
use Rattle.sm_template.proofs.Imports.{◌≡◌, Some, refl, IfOk, slice_get, ap, subst, ◌∙◌, and_from, slice_get-get_or, Sorts, Num, Tree, Lit, Add, tree_sort, trees_in, sorts_in, tree_at, TermId, stays_got, tree_got, sort_got}
use Rattle.std.proofs.Common.{pos}
use Rattle.sm_template.proofs.guards.next_to.Goals as goal

pub made-requires-2-clause-fits : goal.made-requires-2-clause-fits
made-requires-2-clause-fits c =
    let v = c.args.table.now in
    let w = c.made.new.table in
    let grows = c.made.ensures.grows in
    let t = c.args.t in
    let tree = tree_at (trees_in v) t.0 in
    let here = stays_got v w grows t.0 tree (slice_get-get_or (trees_in v) t.0 (Lit (pos 0)) c.requires.there) in
    let sort : tree_sort (sorts_in w) tree ≡ Num = ap (λ (f : Sorts). tree_sort f tree) grows.sorts ∙ c.requires.sort.1 in
    and_from _ _ (sort_got (sorts_in w) (trees_in w) t tree Num here sort)
    (sort_got (sorts_in w) (trees_in w) c.in_ok-one.one _ Num c.in_ok-one.ensures.stored refl)

pub returns-clause-made : goal.returns-clause-made
returns-clause-made c =
    let v = c.args.table.now in
    let w = c.made.new.table in
    let z = c.made-2.new.table in
    let t = c.args.t.0 in
    let one = c.in_ok-one.one.0 in
    let tree = tree_at (trees_in v) t in
    let here = stays_got v w c.made.ensures.grows t tree (slice_get-get_or (trees_in v) t (Lit (pos 0)) c.requires.there) in
    let p : tree_at (trees_in w) t ≡ tree = tree_got (trees_in w) t tree here in
    let q : tree_at (trees_in w) one ≡ Lit (pos 1) = tree_got (trees_in w) one _ c.in_ok-one.ensures.stored in
    subst (λ (s : Tree). IfOk c.made-2.result (λ (id : TermId). slice_get (trees_in z) id.0 ≡ Some s)) (λ k. Add (p k) (q k))
    c.made-2.ensures.stored
