use Rattle.std.proofs.Common.{true, false, sym}
use Rattle.sm_replay.proofs.NumberUnique.{spelled_err, spelled_then}
use Rattle.sm_replay.proofs.number.number_of_text.Goals as goal

pub returns-in_default : goal.returns-in_default
returns-in_default c = sym (spelled_err c.args.text.now c.in_default.ensures.value.0)

pub returns-then-is_text_of : goal.returns-then-is_text_of
returns-then-is_text_of c =
    spelled_then c.args.text.now c.in-Ok.z c.is_text_of.result true c.in-Ok.ensures.value.0 c.is_text_of.ensures c.if-is_text_of.true

pub returns-else-is_text_of : goal.returns-else-is_text_of
returns-else-is_text_of c =
    spelled_then c.args.text.now c.in-Ok.z c.is_text_of.result false c.in-Ok.ensures.value.0 c.is_text_of.ensures c.if-is_text_of.false
