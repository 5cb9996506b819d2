-- A certificate that fits closes the branch of its goal.
use Rattle.sm_audit.proofs.Imports.{length, OnTrue_at, trees_in, sorts_in, lines_of}
use Rattle.sm_audit.proofs.KnownLemmas.{lines_within}
use Rattle.sm_audit.proofs.checking.check_goal.Goals as goal

pub check_branch-requires-clause-within : goal.check_branch-requires-clause-within
check_branch-requires-clause-within c =
    let fit = OnTrue_at c.if-not-is_tree_fit.false c.is_tree_fit.ensures in
    lines_within c.args.since.now c.args.due.now.node (length (trees_in c.args.table.now)) c.requires.few (lines_of c.args.tree.now) fit.lines

pub returns : goal.returns
returns c = λ states all.
    let trees = trees_in c.args.table.now in
    let fit = OnTrue_at c.if-not-is_tree_fit.false c.is_tree_fit.ensures in
    record {
      closes = c.in_ok-check_branch.ensures;
      within =
          lines_within c.args.since.now c.args.due.now.node (length trees) c.requires.few (lines_of c.args.tree.now) fit.lines;
      short = fit.short trees;
      named = fit.named (sorts_in c.args.table.now) states trees all;
    }
