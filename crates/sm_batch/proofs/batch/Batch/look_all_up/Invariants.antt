-- Each task so far was looked up.
use Rattle.sm_batch.proofs.Imports.{take, AllZip, IsLookedUp}
use Rattle.sm_batch.proofs.batch.Batch.look_all_up.Given as goal

abbrev pub invariant-loop-task : goal.invariant-loop-task
invariant-loop-task g l =
    let w = l.self.worker in
    AllZip (IsLookedUp (g.W.Worker.replies w) (g.W.Worker.accepts w) (g.W.Worker.takes w) l.self.entries)
    (take l.task-index l.tasks) l.all.items
