-- A line that closes the branch.
use Rattle.sm_check.proofs.Imports.{trees_in, stores_in}
use Rattle.sm_check.proofs.certs.after_line.Goals as goal

pub returns-then-closes_branch-clause-tells : goal.returns-then-closes_branch-clause-tells
returns-then-closes_branch-clause-tells c facts rest all sorted wait =
    c.close.ensures.tells (stores_in (trees_in c.args.table.now) c.args.branch.stores.value) c.args.branch.splits facts rest all sorted wait
