-- The array is over the table before, and the index stays.
use Rattle.sm_term.proofs.Imports.{◌≡◌, pos, Some, slice_get, IfOk, sym, subst, and_from, slice_get-get_or, Num, Arr, tree_sort, store_in, trees_in, sorts_in, tree_at}
use Rattle.sm_term.specs.Terms as tree
use Rattle.sm_term.proofs.ExpressionLemmas.{named_declared, stays_got, tree_got, sort_got, name_made, there}
use Rattle.sm_term.proofs.symbolic.element_term.Goals as goal

pub named_term-requires-clause-declared : goal.named_term-requires-clause-declared
named_term-requires-clause-declared c = named_declared (sorts_in c.args.table.now) c.args.a.0 Arr c.requires.array

pub add-requires-clause-within : goal.add-requires-clause-within
add-requires-clause-within c =
    let v0 = c.args.table.now in
    let v1 = c.named_term.new.table in
    let second = stays_got v0 v1 c.named_term.ensures.grows c.args.u.0 _ (slice_get-get_or (trees_in v0) c.args.u.0 (tree.Lit (pos 0)) c.requires.index) in
    (there (trees_in v1) _ _ c.in_ok-t.ensures.made, there (trees_in v1) _ _ second)

pub add-requires-clause-fits : goal.add-requires-clause-fits
add-requires-clause-fits c =
    let v0 = c.args.table.now in
    let v1 = c.named_term.new.table in
    let g = c.named_term.ensures.grows in
    let second = stays_got v0 v1 g c.args.u.0 _ (slice_get-get_or (trees_in v0) c.args.u.0 (tree.Lit (pos 0)) c.requires.index) in
    and_from _ _
    (sort_got (sorts_in v1) (trees_in v1) c.in_ok-t.t _ Arr c.in_ok-t.ensures.made (name_made v0 v1 g c.args.s.now c.requires.store c.args.a.0 Arr c.requires.array))
    (sort_got (sorts_in v1) (trees_in v1) c.args.u _ Num second (subst (λ f. tree_sort f (tree_at (trees_in v0) c.args.u.0) ≡ Num) (sym g.sorts) c.requires.number))

pub returns-clause-made : goal.returns-clause-made
returns-clause-made c =
    let v0 = c.args.table.now in
    let v1 = c.named_term.new.table in
    let second = stays_got v0 v1 c.named_term.ensures.grows c.args.u.0 _ (slice_get-get_or (trees_in v0) c.args.u.0 (tree.Lit (pos 0)) c.requires.index) in
    let p = tree_got (trees_in v1) c.in_ok-t.t.0 _ c.in_ok-t.ensures.made in
    let q = tree_got (trees_in v1) c.args.u.0 _ second in
    let same : tree.Read (tree_at (trees_in v1) c.in_ok-t.t.0) (tree_at (trees_in v1) c.args.u.0) ≡ tree.Read (store_in (trees_in v0) c.args.s.now c.args.a.0) (tree_at (trees_in v0) c.args.u.0) =
    λ k. tree.Read (p k) (q k) in
    subst (λ u. IfOk c.add.result (λ id. slice_get (trees_in c.add.new.self) id.0 ≡ Some u)) same c.add.ensures.stored
