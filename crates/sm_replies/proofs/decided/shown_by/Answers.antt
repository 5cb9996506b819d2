use Rattle.sm_task.specs.Tasks.{parts_of}
use Rattle.sm_proof.proofs.PassSound.{pass_free}
use Rattle.sm_replies.proofs.SpelledLemmas.{is_spelled}
use Rattle.sm_replies.proofs.decided.shown_by.Goals as goal

pub proof_text-requires-clause-sorted : goal.proof_text-requires-clause-sorted
proof_text-requires-clause-sorted c = (is_spelled (parts_of c.args.task.now) c.requires.spelled).sorted

pub proof_text-requires-clause-numbered : goal.proof_text-requires-clause-numbered
proof_text-requires-clause-numbered c = (is_spelled (parts_of c.args.task.now) c.requires.spelled).numbered

pub accepted-requires : goal.accepted-requires
accepted-requires c = (is_spelled (parts_of c.args.task.now) c.requires.spelled).runs

pub returns-clause-free : goal.returns-clause-free
returns-clause-free c =
    let t = parts_of c.args.task.now in
    pass_free t c.in_ok-text.text.items (is_spelled t c.requires.spelled).sorted c.in_ok-text.ensures.passes
