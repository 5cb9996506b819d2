use Rattle.sm_batch.proofs.Imports.{sym, subst, HasText, parts_of, Task, IsLookedUp}
use Rattle.sm_batch.proofs.ZipLemmas.{zip_more}
use Rattle.sm_batch.proofs.batch.Batch.look_all_up.Goals as goal

pub look_up-requires : goal.look_up-requires
look_up-requires g c =
    subst (λ (t : Task). HasText (parts_of t)) (sym c.task-item.is) (c.requires c.loop-task.task-index c.task-item.result c.loop-task-test.true)

pub loop-task-preserved : goal.loop-task-preserved
loop-task-preserved g c =
    let w = c.args.self.now.worker in
    zip_more (IsLookedUp (g.W.Worker.replies w) (g.W.Worker.accepts w) (g.W.Worker.takes w) c.args.self.now.entries) c.args.tasks.now
    c.loop-task.all.items c.push.new.self.items c.loop-task.task-index c.task-item.result c.in_ok-look_up.field-0 c.loop-task-test.true c.task-item.is
    c.in_ok-push.ensures.items c.loop-task.invariant c.in_ok-look_up.ensures
