-- The inequality over the table that has one more.
use Rattle.sm_template.proofs.Imports.{[], ◌∷◌, sym, subst, Cmp, on_ok, trees_in, tree_at, there, AddsBounds, weaker}
use Rattle.sm_term.specs.Assertions as plain
use Rattle.sm_template.proofs.BoundsMade.{has_stays, next_has, next_added}
use Rattle.sm_template.proofs.guards.put_weaker.Goals as goal

pub put_bound-requires-in-Le-clause-first_sort : goal.put_bound-requires-in-Le-clause-first_sort
put_bound-requires-in-Le-clause-first_sort c =
    has_stays c.args.table.now c.next_to.new.table c.next_to.ensures.grows c.args.t.0 c.requires.first c.requires.first_sort

pub put_bound-requires-in-Le-clause-second_sort : goal.put_bound-requires-in-Le-clause-second_sort
put_bound-requires-in-Le-clause-second_sort c =
    next_has c.args.table.now c.next_to.new.table c.next_to.ensures.grows c.args.u.0 c.in_ok-next-in-Le.next.0 c.requires.second_sort
    c.in_ok-next-in-Le.ensures.made

pub put_bound-requires-in-Ge-clause-second : goal.put_bound-requires-in-Ge-clause-second
put_bound-requires-in-Ge-clause-second c =
    there (trees_in c.next_to-in-Ge.new.table) c.in_ok-next-in-Ge.next.0 _ c.in_ok-next-in-Ge.ensures.made

pub put_bound-requires-in-Ge-clause-first_sort : goal.put_bound-requires-in-Ge-clause-first_sort
put_bound-requires-in-Ge-clause-first_sort c =
    has_stays c.args.table.now c.next_to-in-Ge.new.table c.next_to-in-Ge.ensures.grows c.args.u.0 c.requires.second c.requires.second_sort

pub put_bound-requires-in-Ge-clause-second_sort : goal.put_bound-requires-in-Ge-clause-second_sort
put_bound-requires-in-Ge-clause-second_sort c =
    next_has c.args.table.now c.next_to-in-Ge.new.table c.next_to-in-Ge.ensures.grows c.args.t.0 c.in_ok-next-in-Ge.next.0
    c.requires.first_sort c.in_ok-next-in-Ge.ensures.made

pub returns-in_ok-next-in-Le-clause-added : goal.returns-in_ok-next-in-Le-clause-added
returns-in_ok-next-in-Le-clause-added c =
    let v = c.args.table.now in
    let w = c.next_to.new.table in
    let t = c.args.t.0 in
    let u = c.args.u.0 in
    let next = c.in_ok-next-in-Le.next.0 in
    let ps = c.args.bounds.now.keys in
    let qs = c.put_bound-in-Le.new.bounds.keys in
    on_ok c.put_bound-in-Le.result c.put_bound-in-Le.ensures
    (λ (added : AddsBounds w w ps qs (plain.Le (tree_at (trees_in w) t) (tree_at (trees_in w) next) ∷ [])).
    subst (λ (op : Cmp). AddsBounds v w ps qs (weaker op (tree_at (trees_in v) t) (tree_at (trees_in v) u))) (sym c.in-Le.is)
    (next_added v w c.next_to.ensures.grows t u next ps qs c.requires.first c.in_ok-next-in-Le.ensures.made added))

pub returns-in_ok-next-in-Ge-clause-added : goal.returns-in_ok-next-in-Ge-clause-added
returns-in_ok-next-in-Ge-clause-added c =
    let v = c.args.table.now in
    let w = c.next_to-in-Ge.new.table in
    let t = c.args.t.0 in
    let u = c.args.u.0 in
    let next = c.in_ok-next-in-Ge.next.0 in
    let ps = c.args.bounds.now.keys in
    let qs = c.put_bound-in-Ge.new.bounds.keys in
    on_ok c.put_bound-in-Ge.result c.put_bound-in-Ge.ensures
    (λ (added : AddsBounds w w ps qs (plain.Le (tree_at (trees_in w) u) (tree_at (trees_in w) next) ∷ [])).
    subst (λ (op : Cmp). AddsBounds v w ps qs (weaker op (tree_at (trees_in v) t) (tree_at (trees_in v) u))) (sym c.in-Ge.is)
    (next_added v w c.next_to-in-Ge.ensures.grows u t next ps qs c.requires.second c.in_ok-next-in-Ge.ensures.made added))
