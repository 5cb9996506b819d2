use Rattle.sm_suggest.proofs.FitTasks.{spelled_are_fit}
use Rattle.sm_suggest.proofs.laws.spelled_are_fit.Goals as goal

pub returns : goal.returns
returns c = spelled_are_fit
