use Rattle.sm_check.proofs.Imports.{Result, ap, subst, sym, cut_answer, TellsAnswer, Checked, CheckError}
use Rattle.sm_check.proofs.AnswerLemmas.{stopped_tells}
use Rattle.sm_check.proofs.verifying.answer_past_limit.Goals as goal

pub returns-in-Ok-clause-answer : goal.returns-in-Ok-clause-answer
returns-in-Ok-clause-answer g c = λ s r t. let all = c.in-Ok.ensures.ok s r t in ap cut_answer all.is

pub returns-in-Err-clause-answer : goal.returns-in-Err-clause-answer
returns-in-Err-clause-answer g c = λ s r t.
    subst (λ (x : Result Checked CheckError). TellsAnswer x (cut_answer r)) (sym c.answer_to.ensures)
    (stopped_tells r c.in-Err.stopped (c.in-Err.ensures.err s r t))
