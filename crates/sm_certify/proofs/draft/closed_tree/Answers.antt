use Rattle.sm_certify.proofs.Imports.{refl, tree_closed, lines_closed}
use Rattle.sm_certify.proofs.draft.closed_tree.Goals as goal

pub returns-clause-certificate : goal.returns-clause-certificate
returns-clause-certificate c = λ trees. tree_closed trees _ c.args.last refl

pub returns-clause-lines : goal.returns-clause-lines
returns-clause-lines c = lines_closed _ c.args.last refl
