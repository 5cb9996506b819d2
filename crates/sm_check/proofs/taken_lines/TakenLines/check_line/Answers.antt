use Rattle.sm_check.proofs.Imports.{Ok, arith, line_of, next_standing}
use Rattle.sm_check.proofs.PieceLemmas.{goes_on, next-opens, refuses}
use Rattle.sm_check.proofs.taken_lines.TakenLines.check_line.Goals as goal

pub returns-in-Ok-clause-ok : goal.returns-in-Ok-clause-ok
returns-in-Ok-clause-ok c = λ s at stands.
    goes_on s (next_standing s at (Ok (line_of c.args.line.now))) _ (next-opens s at (Ok (line_of c.args.line.now)))
    (let low = stands.counted in omega arith) (c.in-Ok.ensures.ok s at stands.is_at)

pub returns-in-Err-Wrong-clause-err : goal.returns-in-Err-Wrong-clause-err
returns-in-Err-Wrong-clause-err c = λ s at stands.
    refuses s (next_standing s at (Ok (line_of c.args.line.now))) _ _ c.in-Err-Wrong.field-0 c.in-Err-Wrong.word (cc)
    (c.in-Err-Wrong.ensures.err s at stands.is_at)

pub returns-in-Err-Memory-clause-err : goal.returns-in-Err-Memory-clause-err
returns-in-Err-Memory-clause-err c = λ s at stands. tt
