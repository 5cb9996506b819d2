use Rattle.sm_task.specs.Tasks.{parts_of}
use Rattle.sm_answers.proofs.ReadingsLemmas.{passed_read}
use Rattle.sm_answers.proofs.Verified.{judged}
use Rattle.sm_answers.proofs.verifying.verify_task.Goals as goal

pub returns-clause-ok : goal.returns-clause-ok
returns-clause-ok g c =
    let v = c.verify-checked.ensures in
    judged (parts_of c.args.task.now) (g.H.Shelf.file c.args.shelf.now c.args.proof.now) (g.H.Shelf.read_faults c.args.shelf.now)
    (g.H.Shelf.read_faults c.verify-checked.new.shelf) c.verify-checked.result _ _
    (record { answer = v.answer; gone = v.absent; sound = v.sound; cause = v.cause }) c.in_ok-proof_reply.ensures

pub returns-clause-read : goal.returns-clause-read
returns-clause-read g c =
    let v = c.verify-checked.ensures in
    passed_read (parts_of c.args.task.now) c.args.proof.now (g.H.Shelf.given c.args.shelf.now)
    (g.H.Shelf.given c.verify-checked.new.shelf) c.verify-checked.result _ _ v.read v.sound c.in_ok-proof_reply.ensures
