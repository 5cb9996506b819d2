use Rattle.sm_check.proofs.Imports.{Result, ap, subst, sym, lines_in, verdict, Judged, TellsAnswer, Checked, CheckError, reach}
use Rattle.sm_check.proofs.AnswerLemmas.{stopped_verdict}
use Rattle.sm_check.proofs.MemoryLemmas.{none_left}
use Rattle.sm_check.proofs.verifying.answer_at_end.Goals as goal

pub returns-in-Ok-clause-answer : goal.returns-in-Ok-clause-answer
returns-in-Ok-clause-answer g c = λ s bytes t.
    ap Judged
    (c.at_end.ensures s bytes (none_left c.take_aside.new.self s bytes (c.in-Ok.ensures.ok s (reach s bytes) t.comes))
    (c.is_empty.ensures (lines_in bytes).rest t.kept))

pub returns-in-Err-clause-answer : goal.returns-in-Err-clause-answer
returns-in-Err-clause-answer g c = λ s bytes t.
    subst (λ (x : Result Checked CheckError). TellsAnswer x (Judged (verdict s bytes))) (sym c.answer_to.ensures)
    (stopped_verdict s bytes c.in-Err.stopped (c.in-Err.ensures.err s (reach s bytes) t.comes))
