use Rattle.sm_trim.proofs.TrimmingLaws.{used_is_trimmed}
use Rattle.sm_trim.proofs.laws.used_stays.Goals as goal

pub returns : goal.returns
returns c = used_is_trimmed
