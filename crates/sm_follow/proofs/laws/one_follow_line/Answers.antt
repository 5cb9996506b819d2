use Rattle.sm_follow.proofs.Lines.{follow_line_one}
use Rattle.sm_follow.proofs.laws.one_follow_line.Goals as goal

pub returns : goal.returns
returns c = follow_line_one
