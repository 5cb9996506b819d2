-- What the jobs give may go to another thread.
use denote.Param.Send.{IsSend, sendable}
use Rattle.std.proofs.Crossing.{crosses}
use Rattle.sm_syntax.proofs.tree.Cond.TheLaws.TheKnot as cond
use Rattle.sm_syntax.proofs.tree.Expr.TheLaws.TheKnot as expr
use Rattle.sm_syntax.proofs.tree.Stmt.TheLaws.TheKnot as stmt
use Rattle.sm_syntax.specs.contracts.tree.Block as Block
use Rattle.sm_term.specs.contracts.term.Term as Term
use Rattle.sm_cert.proofs.tree.CertEnd.TheLaws.TheKnot as certificate
use Rattle.sm_cert.specs.contracts.tree.CertTree as CertTree
use Rattle.sm_houdini.specs.contracts.run_ends.RunEnd as RunEnd
use Rattle.sm_houdini.specs.contracts.ending.Stop as Stop

-- the bodies of summaries
ruleset bodies = (stmt.crosses, cond.crosses, expr.crosses)

-- the terms of a table, and the bodies of its summaries
term_send : IsSend Term.the_row
term_send = search (sendable, crosses) depth 40 fits 3000

block_send : IsSend Block.the_row
block_send = search (bodies, sendable, crosses) depth 40 fits 3000

-- certificates
tree_send : IsSend CertTree.the_row
tree_send = search (certificate.crosses, sendable, crosses) depth 40 fits 3000

-- why a goal has no certificate
stop_send : IsSend Stop.the_row
stop_send = search (sendable, crosses) depth 40 fits 3000

-- what a run of goals comes to
pub run_end_send : IsSend RunEnd.the_row
run_end_send = search (term_send, block_send, tree_send, stop_send, sendable, crosses) depth 40 fits 3000
