use Rattle.sm_houdini.proofs.laws.search_is_writable.Goals as goal
use Rattle.sm_houdini.proofs.SearchWritable.{search_writable}

pub returns : goal.returns
returns c = search_writable
