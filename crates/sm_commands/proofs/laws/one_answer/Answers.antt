use Rattle.sm_commands.proofs.AnswerUnique.{answer_one}
use Rattle.sm_commands.proofs.laws.one_answer.Goals as goal

pub returns : goal.returns
returns c = answer_one
