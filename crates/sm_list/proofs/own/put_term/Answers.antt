-- The term's arguments are in the other table, so it fits there, and has the same tree.
use Rattle.sm_list.proofs.Imports.{◌≡◌, ℕ, Some, slice_get, List, refl, ap, ◌∙◌, subst, moved_contents, contents_of, trees_in, sorts_in, codes_in, tree_at, TermId, with_tree, number_under}
use Rattle.sm_list.proofs.OwnLemmas.{row_stands, placed_put}
use Rattle.sm_list.proofs.own.put_term.Goals as goal

pub put_row-requires-clause-within : goal.put_row-requires-clause-within
put_row-requires-clause-within c =
    let table = c.args.table.now in
    let own = c.args.own.now in
    let row = subst (λ (ns : List TermId). contents_of c.in_ok-row.row ≡ moved_contents (number_under ns) (λ (b : ℕ). b) c.get.result.now)
    c.deref.ensures.value c.in_ok-row.ensures in
    (row_stands (sorts_in table) (sorts_in own) (codes_in table) (codes_in own) (trees_in table) (trees_in own) c.args.numbers.now.items
    c.requires.sorts
    c.requires.codes c.requires.placed c.args.t.0 c.requires.within c.get.result.now c.in_ok-row.row c.get.ensures.tree c.get.ensures.before
    c.get.ensures.fits c.requires.ready row).within

pub put_row-requires-clause-fits : goal.put_row-requires-clause-fits
put_row-requires-clause-fits c =
    let table = c.args.table.now in
    let own = c.args.own.now in
    let row = subst (λ (ns : List TermId). contents_of c.in_ok-row.row ≡ moved_contents (number_under ns) (λ (b : ℕ). b) c.get.result.now)
    c.deref.ensures.value c.in_ok-row.ensures in
    (row_stands (sorts_in table) (sorts_in own) (codes_in table) (codes_in own) (trees_in table) (trees_in own) c.args.numbers.now.items
    c.requires.sorts
    c.requires.codes c.requires.placed c.args.t.0 c.requires.within c.get.result.now c.in_ok-row.row c.get.ensures.tree c.get.ensures.before
    c.get.ensures.fits c.requires.ready row).fits

pub returns-clause-trees : goal.returns-clause-trees
returns-clause-trees c =
    let table = c.args.table.now in
    let own = c.args.own.now in
    let row = subst (λ (ns : List TermId). contents_of c.in_ok-row.row ≡ moved_contents (number_under ns) (λ (b : ℕ). b) c.get.result.now)
    c.deref.ensures.value c.in_ok-row.ensures in
    let stands = row_stands (sorts_in table) (sorts_in own) (codes_in table) (codes_in own) (trees_in table) (trees_in own)
    c.args.numbers.now.items
    c.requires.sorts c.requires.codes c.requires.placed c.args.t.0 c.requires.within c.get.result.now c.in_ok-row.row c.get.ensures.tree
    c.get.ensures.before c.get.ensures.fits c.requires.ready row in
    c.in_ok-numbers.ensures.trees ∙ ap (with_tree (trees_in own)) stands.tree

pub returns-clause-placed : goal.returns-clause-placed
returns-clause-placed c =
    let table = c.args.table.now in
    let own = c.args.own.now in
    let row = subst (λ (ns : List TermId). contents_of c.in_ok-row.row ≡ moved_contents (number_under ns) (λ (b : ℕ). b) c.get.result.now)
    c.deref.ensures.value c.in_ok-row.ensures in
    let id = c.in_ok-numbers.field-0 in
    let later = trees_in c.put_row.new.own in
    let stands = row_stands (sorts_in table) (sorts_in own) (codes_in table) (codes_in own) (trees_in table) (trees_in own)
    c.args.numbers.now.items
    c.requires.sorts c.requires.codes c.requires.placed c.args.t.0 c.requires.within c.get.result.now c.in_ok-row.row c.get.ensures.tree
    c.get.ensures.before c.get.ensures.fits c.requires.ready row in
    let made = c.in_ok-numbers.ensures.trees ∙ ap (with_tree (trees_in own)) stands.tree in
    let stored : slice_get later id.0 ≡ Some (tree_at (trees_in table) c.args.t.0) = c.in_ok-numbers.ensures.stored ∙ ap Some stands.tree in
    placed_put (trees_in table) (trees_in own) c.len-count.ensures.apart c.args.numbers.now.items _ c.args.t.0 id later c.requires.placed
    c.requires.within
    c.requires.count made stored refl
