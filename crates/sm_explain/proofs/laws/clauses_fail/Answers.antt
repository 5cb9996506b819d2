use Rattle.sm_explain.proofs.ClausesSound.{clauses_are}
use Rattle.sm_explain.proofs.laws.clauses_fail.Goals as goal

pub returns : goal.returns
returns c = clauses_are
