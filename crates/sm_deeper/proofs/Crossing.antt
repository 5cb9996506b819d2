-- What jobs give may go to another thread.
use denote.Param.Send.{IsSend, sendable}
use Rattle.std.proofs.Crossing.{crosses}
use Rattle.sm_syntax.proofs.tree.Cond.TheLaws.TheKnot as cond
use Rattle.sm_syntax.proofs.tree.Expr.TheLaws.TheKnot as expr
use Rattle.sm_syntax.proofs.tree.Stmt.TheLaws.TheKnot as stmt
use Rattle.sm_syntax.specs.contracts.tree.Block as Block
use Rattle.sm_term.specs.contracts.term.Term as Term
use Rattle.sm_cert.proofs.tree.CertEnd.TheLaws.TheKnot as certificate
use Rattle.sm_cert.specs.contracts.tree.CertTree as CertTree
use Rattle.sm_deeper.specs.contracts.end_jobs.JobEnd as JobEnd

ruleset bodies = (stmt.crosses, cond.crosses, expr.crosses)

-- the terms of a table, and the bodies of its summaries
term_send : IsSend Term.the_row
term_send = search (sendable, crosses) depth 40 fits 3000

block_send : IsSend Block.the_row
block_send = search (bodies, sendable, crosses) depth 40 fits 3000

-- certificates
tree_send : IsSend CertTree.the_row
tree_send = search (certificate.crosses, sendable, crosses) depth 40 fits 3000

-- what the nodes of a job come to
pub job_end_send : IsSend JobEnd.the_row
job_end_send = search (term_send, block_send, tree_send, sendable, crosses) depth 40 fits 3000
