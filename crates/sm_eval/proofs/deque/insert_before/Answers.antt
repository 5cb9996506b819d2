use Rattle.std.proofs.Common.{◌+◌, ◌-◌, arith}
use Rattle.sm_eval.proofs.Rooms.{drop-moved}
use Rattle.sm_eval.proofs.deque.insert_before.Goals as goal

-- those before the new one have moved into the room
pub returns-clause-pairs : goal.returns-clause-pairs
returns-clause-pairs c =
    let front = c.args.front in
    let room = c.requires.room in
    let fits = c.requires.in_range in
    rw c.copy_within.ensures.items
    (drop-moved c.args.items.now.items front c.args.at (front - 1) (front + c.args.at - front) c.args.pair (omega arith) (omega arith) fits)
