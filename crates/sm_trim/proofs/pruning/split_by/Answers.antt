use Rattle.sm_trim.proofs.Imports.{◌≡◌, IfOk, subst, CertificateLine, LeftSplit, pruned_in, LeftTree}
use Rattle.sm_trim.proofs.pruning.split_by.Goals as goal

pub returns : goal.returns
returns c = λ trees.
    subst (λ (l : CertificateLine). IfOk c.split_tree.result (λ (t : LeftTree). pruned_in trees t
    ≡ LeftSplit c.args.at l (pruned_in trees c.args.first) (pruned_in trees c.args.second)))
    (c.in_ok-line.ensures trees) (c.split_tree.ensures trees)
