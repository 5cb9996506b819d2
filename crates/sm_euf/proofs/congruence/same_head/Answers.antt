use Rattle.sm_euf.proofs.Imports.{◌∙◌, tree_at, trees_in, sorts_in, codes_in}
use Rattle.sm_euf.proofs.ArgumentsLemmas.{trees_have_one_head}
use Rattle.sm_euf.proofs.congruence.same_head.Goals as goal

pub returns : goal.returns
returns c =
    let table = c.args.table.now in
    let trees = trees_in table in
    let one = c.get in
    let other = c.get-2 in
    let tells = trees_have_one_head (sorts_in table) (codes_in table) trees c.len.ensures.codes_apart c.args.t.0 c.args.u.0 in
    let rows = tells one.result.now other.result.now one.ensures.before other.ensures.before one.ensures.fits other.ensures.fits in
    c.heads_match.ensures ∙ rows (tree_at trees c.args.t.0) (tree_at trees c.args.u.0) one.ensures.tree other.ensures.tree
