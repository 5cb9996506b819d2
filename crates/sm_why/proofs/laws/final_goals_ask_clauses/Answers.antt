use Rattle.sm_why.proofs.FinalGoals.{final_goals}
use Rattle.sm_why.proofs.laws.final_goals_ask_clauses.Goals as goal

pub returns : goal.returns
returns c = final_goals
