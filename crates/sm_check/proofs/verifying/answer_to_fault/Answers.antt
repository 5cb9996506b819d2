use Rattle.sm_check.proofs.Imports.{ap, subst, StopsAt, cut_answer}
use Rattle.sm_check.proofs.verifying.answer_to_fault.Goals as goal

pub returns-in-Err-Wrong-clause-answer : goal.returns-in-Err-Wrong-clause-answer
returns-in-Err-Wrong-clause-answer g c = λ s r t.
    ap cut_answer (subst (StopsAt r) c.in-Err-Wrong.field-0-is (c.in-Err-Wrong.ensures.err s r t))
