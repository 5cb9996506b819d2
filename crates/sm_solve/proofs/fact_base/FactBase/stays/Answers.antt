-- No tree stands twice, so a term that more terms bring is none of the node's.
use Rattle.sm_solve.proofs.StaysLemmas.{node_grown}
use Rattle.sm_solve.proofs.fact_base.FactBase.stays.Goals as goal

pub returns : goal.returns
returns c = λ old given is grows. node_grown old c.args.table.now given c.args.self.now grows c.len.ensures.apart is
