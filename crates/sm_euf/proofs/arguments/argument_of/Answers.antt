-- The argument's tree is an argument of the term's tree.
use Rattle.sm_euf.proofs.Imports.{◌≡◌, Option, List, length, slice_get, sym, ap, ◌∙◌, subst, Some, arith, Tree, arguments_of, trees_in, tree_at, codes_in, sorts_in, TermId, OptionStands, argument_numbers, trees_of}
use Rattle.sm_euf.proofs.ArgumentsLemmas.{arguments_are, parts_before, found_stands}
use Rattle.sm_euf.proofs.arguments.argument_of.Goals as goal

pub returns : goal.returns
returns c =
    let table = c.args.table.now in
    let trees = trees_in table in
    let sorts = sorts_in table in
    let codes = codes_in table in
    let term = c.get.result.now in
    let n = c.args.t.0 in
    let is = sym (arguments_are sorts codes trees term c.get.ensures.fits) ∙ ap arguments_of c.get.ensures.tree in
    let before = parts_before sorts (length codes) n (length trees) (omega arith) term c.get.ensures.before in
    let P = OptionStands (λ (a : TermId) (tree : Tree). slice_get trees a.0 ≡ Some tree) in
    subst (λ (o : Option TermId). P o (slice_get (arguments_of (tree_at trees n)) c.args.i)) (sym c.argument.ensures)
    (subst (λ (ts : List Tree). P (slice_get (argument_numbers term) c.args.i) (slice_get ts c.args.i)) is
    (found_stands trees (argument_numbers term) c.args.i before))
