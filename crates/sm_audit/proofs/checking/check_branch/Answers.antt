-- The certificate is checked by the three theories.
use Rattle.sm_audit.proofs.Imports.{numbered, assertion_in, trees_in, sorts_in, forms_in, denied}
use Rattle.sm_audit.proofs.BranchLemmas.{denied_sorted}
use Rattle.sm_audit.proofs.checking.check_branch.Goals as goal

pub check_tree-requires : goal.check_tree-requires
check_tree-requires c = c.requires.within

pub returns : goal.returns
returns c =
    let sorts = sorts_in c.args.table.now in
    let trees = trees_in c.args.table.now in
    let fs = c.args.facts.now.list.items in
    let goal = c.args.goal.now in
    c.in_ok-check_tree.ensures.ok (denied (forms_in sorts trees fs) (assertion_in sorts trees (numbered goal)))
    (c.in_ok-branch.ensures sorts trees c.requires.facts c.requires.goal)
    (denied_sorted sorts trees fs goal c.requires.facts c.requires.goal)
