-- The nodes are counted within the limits.
use Rattle.sm_plan.proofs.Imports.{◌∙◌, numbered}
use Rattle.sm_plan.proofs.KeptLemmas.{kept_counted}
use Rattle.sm_plan.proofs.kept.is_kept.Goals as goal

pub returns : goal.returns
returns c = λ sorts trees. c.is_some.ensures ∙ kept_counted sorts trees (numbered c.args.keep.now) c.nodes_left.result c.nodes_left.ensures
