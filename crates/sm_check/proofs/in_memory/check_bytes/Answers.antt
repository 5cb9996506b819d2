use Rattle.sm_check.proofs.Imports.{subject_of, verdict, parts_of}
use Rattle.sm_check.proofs.MemoryLemmas.{passes_by}
use Rattle.sm_check.proofs.in_memory.check_bytes.Goals as goal

pub returns-clause-answer : goal.returns-clause-answer
returns-clause-answer c = c.check_whole.ensures (subject_of (parts_of c.args.task.now)) c.in_ok-checker.ensures

pub returns-clause-sound : goal.returns-clause-sound
returns-clause-sound c = λ pass.
    let t = parts_of c.args.task.now in
    let bytes = c.args.bytes.now in
    c.pass_is_free.ensures t bytes c.requires.sorted
    (passes_by c.check_whole.result (verdict (subject_of t) bytes) pass (c.check_whole.ensures (subject_of t) c.in_ok-checker.ensures))
