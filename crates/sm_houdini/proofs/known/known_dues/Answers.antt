use Rattle.sm_houdini.proofs.KnownLemmas.{none_known}
use Rattle.sm_houdini.proofs.known.known_dues.Goals as goal

pub returns-in-None : goal.returns-in-None
returns-in-None c = λ v reach before. none_known v reach c.args.dues.now c.new.result.items c.new.ensures.items
