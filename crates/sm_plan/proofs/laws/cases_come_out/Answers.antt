use Rattle.sm_plan.proofs.laws.cases_come_out.Goals as goal
use Rattle.sm_plan.proofs.CasesLemmas.{come_out}

pub returns : goal.returns
returns c = come_out
