use Rattle.sm_trim.proofs.TrimmingLaws.{trimmed_twice}
use Rattle.sm_trim.proofs.laws.trimmed_twice.Goals as goal

pub returns : goal.returns
returns c = trimmed_twice
