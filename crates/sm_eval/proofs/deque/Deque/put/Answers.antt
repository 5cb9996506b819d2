use Rattle.sm_eval.proofs.Imports.{List, ℤ, set, ap, ◌∙◌, drop-set-add}
use Rattle.sm_eval.proofs.deque.Deque.put.Goals as goal

pub returns : goal.returns
returns c =
    drop-set-add c.self.inside.front c.self.inside.items.items c.args.at c.args.pair ∙
    ap (λ (l : List (ℤ × ℤ)). set l c.args.at c.args.pair) c.self.view_is
