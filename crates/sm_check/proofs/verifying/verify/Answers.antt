use Rattle.sm_check.proofs.Imports.{rules, subject_of, parts_of}
use Rattle.sm_check.proofs.GivenLemmas.{none_given}
use Rattle.sm_check.proofs.verifying.verify.Goals as goal

pub returns-clause-sound : goal.returns-clause-sound
returns-clause-sound g c = λ pass.
    let t = parts_of c.args.task.now in
    let file = c.check_file.ensures.sound (subject_of t) c.in_ok-checker.ensures pass in
    c.pass_is_free.ensures t file.0 c.requires.checkable.sorted file.1

pub returns-clause-read : goal.returns-clause-read
returns-clause-read g c = c.check_file.ensures.read (subject_of (parts_of c.args.task.now)) c.in_ok-checker.ensures

pub returns-in_err-programs-clause-read : goal.returns-in_err-programs-clause-read
returns-in_err-programs-clause-read g c =
    none_given c.args.name.now (g.H.Shelf.given c.args.shelf.now) 268435456 (subject_of (parts_of c.args.task.now)) c.from_residual.result
    (search rules)

pub returns-in_err-checker-clause-read : goal.returns-in_err-checker-clause-read
returns-in_err-checker-clause-read g c =
    none_given c.args.name.now (g.H.Shelf.given c.args.shelf.now) 268435456 (subject_of (parts_of c.args.task.now)) c.from_residual-in_err-checker.result
    (search rules)
