use Rattle.sm_trim.proofs.TrimmingLaws.{closes_trimmed}
use Rattle.sm_trim.proofs.laws.trimmed_closes.Goals as goal

pub returns : goal.returns
returns c = closes_trimmed
