use Rattle.sm_trim.proofs.Imports.{◌≡◌, ◌∙◌, ℕ, List, [], ap, IfOk-weaker, certificate_in, closed_up, pruned_in, trimmed}
use Rattle.sm_trim.proofs.trim.trimmed.Goals as goal

pub returns : goal.returns
returns c = λ trees.
    let start = c.args.start in
    let left = pruned_in trees c.in_ok-left.left.tree in
    let moved = c.new-moved.result.items in
    IfOk-weaker c.closed_up.result (λ t. certificate_in trees t ≡ closed_up moved start left)
    (λ t. certificate_in trees t ≡ trimmed start (certificate_in trees c.args.tree.now))
    (λ t same.
    same ∙ ap (λ (ns : List ℕ). closed_up ns start left) c.new-moved.ensures.items
    ∙ ap (closed_up [] start) (c.in_ok-left.ensures trees).tree)
    (c.closed_up.ensures.closed trees)
