use Rattle.sm_text.proofs.Complete.Tasks.{one_parse}
use Rattle.sm_text.proofs.laws.one_parse.Goals as goal

pub returns : goal.returns
returns c = one_parse
