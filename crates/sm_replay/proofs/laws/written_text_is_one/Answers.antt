use Rattle.sm_replay.proofs.InputUnique.{written_one}
use Rattle.sm_replay.proofs.laws.written_text_is_one.Goals as goal

pub returns : goal.returns
returns c = written_one
