use Rattle.sm_eval.proofs.Imports.{List, ℤ, length, ap, ◌∙◌, arith, insert, length-drop}
use Rattle.sm_eval.proofs.Rooms.{drop-insert}
use Rattle.sm_eval.proofs.deque.Deque.insert.Goals as goal

-- where no pair moves into the room
pub returns-then-at-len-clause-ok : goal.returns-then-at-len-clause-ok
returns-then-at-len-clause-ok c =
    let items = c.self.inside.items.items in
    let front = c.self.inside.front in
    let same = ap (λ (l : List (ℤ × ℤ)). length l) c.self.view_is in
    let live = length-drop front items in
    let within = c.requires in
    rw c.in_ok-insert.ensures.items
    (drop-insert items front c.args.at c.args.pair (omega arith) ∙ ap (λ (l : List (ℤ × ℤ)). insert l c.args.at c.args.pair) c.self.view_is)
