use Rattle.sm_solve.proofs.Imports.{◌≡◌, List, IfOk, subst, CertificateLine, certificate_in, CertTree, led_by}
use Rattle.sm_solve.proofs.branching.led_tree.Goals as goal

pub returns-clause-tree : goal.returns-clause-tree
returns-clause-tree c = λ trees.
    subst (λ (ls : List CertificateLine). IfOk c.under_lines.result
    (λ (t : CertTree). certificate_in trees t ≡ led_by ls (certificate_in trees c.args.tree)))
    (c.in_ok-lines.ensures.lines trees) (c.under_lines.ensures.tree trees)

pub returns-clause-within : goal.returns-clause-within
returns-clause-within c = λ count all. c.under_lines.ensures.within count (c.in_ok-lines.ensures.within count) all
