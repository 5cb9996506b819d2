use Rattle.sm_houdini.proofs.laws.valid_is_searchable.Goals as goal
use Rattle.sm_houdini.proofs.ShortLines.{valid_searchable}

pub returns : goal.returns
returns c = valid_searchable
