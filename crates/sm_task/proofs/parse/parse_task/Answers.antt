use Rattle.std.proofs.lemmas.Result.{err_from_is_err_and}
use Rattle.sm_task.proofs.Parsing.{refused-err, valid-fails, refused-fails, not_refused, text_fails-err}
use Rattle.sm_task.proofs.parse.parse_task.Goals as goal

pub returns-clause-ok : goal.returns-clause-ok
returns-clause-ok c =
    record { text = c.in_ok-task.ensures.ok; valid = c.in_ok-check_conditions.ensures }

pub returns-clause-printable : goal.returns-clause-printable
returns-clause-printable c = (c.args.bytes.now, returns-clause-ok c)

pub returns-clause-only : goal.returns-clause-only
returns-clause-only c t p = c.in_ok-task.ensures.only t p.text

pub returns-clause-refused : goal.returns-clause-refused
returns-clause-refused c t r p some = absurd
    (not_refused _ t r (c.in_ok-task.ensures.only t p) some c.in_ok-check_conditions.ensures)

-- the exit at the text
pub returns-in_err-task-clause-err : goal.returns-in_err-task-clause-err
returns-in_err-task-clause-err c =
    text_fails-err c.args.bytes.now c.from_residual.result _
    (err_from_is_err_and c.from_residual.result c.from_residual.ensures.1) c.in_err-task.ensures.place

-- the exit at a condition
pub returns-in_err-check_conditions-clause-only : goal.returns-in_err-check_conditions-clause-only
returns-in_err-check_conditions-clause-only c t p =
    valid-fails _ t c.from_residual-in_err-check_conditions.result _
    (err_from_is_err_and c.from_residual-in_err-check_conditions.result c.from_residual-in_err-check_conditions.ensures.1)
    (c.in_ok-task.ensures.only t p.text) p.valid c.in_err-check_conditions.ensures

pub returns-in_err-check_conditions-clause-refused : goal.returns-in_err-check_conditions-clause-refused
returns-in_err-check_conditions-clause-refused c t r p some =
    refused-fails _ t r c.from_residual-in_err-check_conditions.result _
    (err_from_is_err_and c.from_residual-in_err-check_conditions.result c.from_residual-in_err-check_conditions.ensures.1)
    (c.in_ok-task.ensures.only t p) some c.in_err-check_conditions.ensures

pub returns-in_err-check_conditions-clause-err : goal.returns-in_err-check_conditions-clause-err
returns-in_err-check_conditions-clause-err c =
    refused-err c.args.bytes.now _ c.from_residual-in_err-check_conditions.result _
    (err_from_is_err_and c.from_residual-in_err-check_conditions.result c.from_residual-in_err-check_conditions.ensures.1)
    c.in_ok-task.ensures.ok c.in_err-check_conditions.ensures
