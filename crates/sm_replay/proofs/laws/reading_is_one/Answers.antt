use Rattle.sm_replay.proofs.InputUnique.{reading_one}
use Rattle.sm_replay.proofs.laws.reading_is_one.Goals as goal

pub returns : goal.returns
returns c = reading_one
