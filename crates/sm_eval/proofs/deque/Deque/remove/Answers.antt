use Rattle.sm_eval.proofs.Imports.{List, ℤ, length, drop, ap, ◌∙◌, arith, remove, length-drop}
use Rattle.sm_eval.proofs.Rooms.{drop-remove}
use Rattle.sm_eval.proofs.deque.Deque.remove.Goals as goal

pub returns : goal.returns
returns c =
    let items = c.self.inside.items.items in
    let front = c.self.inside.front in
    let same = ap (λ (l : List (ℤ × ℤ)). length l) c.self.view_is in
    let live = length-drop front items in
    let within = c.requires in
    ap (drop front) c.remove.ensures.items ∙ drop-remove items front c.args.at (omega arith) ∙
    ap (λ (l : List (ℤ × ℤ)). remove l c.args.at) c.self.view_is
