use Rattle.sm_replay.proofs.NamesFound.{spelled_found}
use Rattle.sm_replay.proofs.laws.spelled_names_are_found.Goals as goal

pub returns : goal.returns
returns c = spelled_found
