-- Where each line of a certificate is used, and each term and formula named, each line is used.
use Rattle.std.proofs.lemmas.Result.{IfOk-weaker}
use Rattle.sm_used.proofs.Imports.{◌≡◌, true, subject_of, HasUsedLines, parts_of}
use Rattle.sm_used.proofs.CountedLemmas.{rows_used}
use Rattle.sm_used.proofs.used.has_used_lines.Goals as goal

pub returns-in-Ok : goal.returns-in-Ok
returns-in-Ok c = λ named.
    let s = subject_of (parts_of c.args.task.now) in
    IfOk-weaker c.are_used.result _ (λ used. used ≡ true → HasUsedLines s c.args.bytes.now)
    (λ used told yes. rows_used s c.args.bytes.now c.in-Ok.rows.items c.in-Ok.ensures (told yes) named) c.are_used.ensures
