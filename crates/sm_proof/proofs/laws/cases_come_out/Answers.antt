use Rattle.sm_proof.proofs.laws.cases_come_out.Goals as goal
use Rattle.sm_proof.proofs.CasesLemmas.{files_are_lines, come_out}

pub returns-clause-lines : goal.returns-clause-lines
returns-clause-lines c = files_are_lines

pub returns-clause-cases : goal.returns-clause-cases
returns-clause-cases c = come_out
