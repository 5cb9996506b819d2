use Rattle.sm_trim.proofs.TrimmingLaws.{used_trimmed}
use Rattle.sm_trim.proofs.laws.trimmed_is_used.Goals as goal

pub returns : goal.returns
returns c = used_trimmed
