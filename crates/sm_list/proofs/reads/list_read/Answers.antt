-- The element has a number in the table, which is listed.
use Rattle.sm_list.proofs.Imports.{◌≡◌, length, sym, ap, subst, ◌∙◌, pos, slice_get_within, get_or_from_slice_get, Tree, Read, Lit, trees_in, tree_at, put, trees_at, AreBelow, listed_put, below_put, below_grown, same_grown}
use Rattle.sm_list.proofs.reads.list_read.Goals as goal

pub returns-clause-terms : goal.returns-clause-terms
returns-clause-terms c =
    let old = trees_in c.args.table.now in
    let trees = trees_in c.read_number.new.table in
    let ns = c.args.listed.now in
    let n = c.in_ok-t.t.0 in
    let read = Read (tree_at old c.args.a.0) (tree_at old c.args.i.0) in
    let stored = c.in_ok-t.ensures.stored in
    let inside = slice_get_within trees n read stored in
    let is : tree_at trees n ≡ read = get_or_from_slice_get trees n read (Lit (pos 0)) stored in
    let grown = c.read_number.ensures.grows.trees in
    let below = below_grown old trees grown ns c.requires.listed in
    ap (trees_at trees) c.in_ok-add.ensures.values
    ∙ listed_put trees c.len-count.ensures.apart ns below n inside
    ∙ ap (λ (t : Tree). put t (trees_at trees ns)) is
    ∙ ap (put read) (same_grown old trees grown ns c.requires.listed)

pub returns-clause-listed : goal.returns-clause-listed
returns-clause-listed c =
    let old = trees_in c.args.table.now in
    let trees = trees_in c.read_number.new.table in
    let ns = c.args.listed.now in
    let n = c.in_ok-t.t.0 in
    let read = Read (tree_at old c.args.a.0) (tree_at old c.args.i.0) in
    let inside = slice_get_within trees n read c.in_ok-t.ensures.stored in
    let below = below_grown old trees c.read_number.ensures.grows.trees ns c.requires.listed in
    subst (AreBelow (length trees)) (sym c.in_ok-add.ensures.values) (below_put (length trees) ns n below inside)
