use Rattle.sm_euf.proofs.Imports.{length, ◌∙◌, arith, tree_at, trees_in, sorts_in, codes_in}
use Rattle.sm_euf.proofs.ArgumentsLemmas.{say_of_trees, parts_before}
use Rattle.sm_euf.proofs.CongruenceLemmas.{cong_stands, cong_fails}
use Rattle.sm_euf.proofs.congruence.congruent.Goals as goal

pub equal_arguments-requires-clause-left : goal.equal_arguments-requires-clause-left
equal_arguments-requires-clause-left c =
    let table = c.args.table.now in
    let before = parts_before (sorts_in table) (length (codes_in table)) c.args.t.0 (length (trees_in table)) in
    before (omega (arith, c.requires.left)) c.get.result.now c.get.ensures.before

pub equal_arguments-requires-clause-right : goal.equal_arguments-requires-clause-right
equal_arguments-requires-clause-right c =
    let table = c.args.table.now in
    let before = parts_before (sorts_in table) (length (codes_in table)) c.args.u.0 (length (trees_in table)) in
    before (omega (arith, c.requires.right)) c.get-2.result.now c.get-2.ensures.before

pub returns-then-equal_arguments : goal.returns-then-equal_arguments
returns-then-equal_arguments c = λ facts all.
    let table = c.args.table.now in
    let trees = trees_in table in
    let one = c.get in
    let other = c.get-2 in
    let rows = say_of_trees (sorts_in table) (codes_in table) trees facts c.args.numbers.now one.result.now other.result.now in
    let trees_say = rows one.ensures.fits other.ensures.fits (tree_at trees c.args.t.0) (tree_at trees c.args.u.0) in
    let says = trees_say one.ensures.tree other.ensures.tree in
    cong_stands (sorts_in table) trees facts c.args.t c.args.u c.args.numbers.now _ _ _ c.requires.left c.requires.right
    c.is_empty.ensures c.if-is_empty.false c.same_head.ensures c.if-not-same_head.false
    (c.equal_arguments.ensures facts all ∙ says) c.if-equal_arguments.true

pub returns-else-equal_arguments : goal.returns-else-equal_arguments
returns-else-equal_arguments c = λ facts all.
    let table = c.args.table.now in
    let trees = trees_in table in
    let one = c.get in
    let other = c.get-2 in
    let rows = say_of_trees (sorts_in table) (codes_in table) trees facts c.args.numbers.now one.result.now other.result.now in
    let trees_say = rows one.ensures.fits other.ensures.fits (tree_at trees c.args.t.0) (tree_at trees c.args.u.0) in
    let says = trees_say one.ensures.tree other.ensures.tree in
    cong_fails (sorts_in table) trees facts c.args.t c.args.u c.args.numbers.now _ _ _
    c.is_empty.ensures c.if-is_empty.false c.same_head.ensures c.if-not-same_head.false
    (c.equal_arguments.ensures facts all ∙ says) c.if-equal_arguments.false
