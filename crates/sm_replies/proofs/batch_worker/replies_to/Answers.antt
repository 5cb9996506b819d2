use Rattle.sm_replies.proofs.Imports.{ℕ, Vec, Global, map, rules, subst, AllZip, Task, IsAnswered, IsTheReply, Effort}
use Rattle.std.proofs.Common.{IfOk}
use Rattle.sm_task.specs.Tasks.{parts_of}
use Rattle.sm_replies.proofs.BatchTold.{worker_answer}
use Rattle.sm_replies.proofs.batch_worker.replies_to.Goals as goal

pub group-requires-clause-told : goal.group-requires-clause-told
group-requires-clause-told g c κs within = λ t a text may.
    worker_answer c.args.batch.now.worker.effort c.args.effort t a c.requires.worker
    (subst (λ (x : Task). IsAnswered c.args.effort (parts_of x) a) may.shows (search (rules, may.says.met)))

pub returns-clause-replies : goal.returns-clause-replies
returns-clause-replies g c =
    subst
    (λ (e : Effort). IfOk c.group.result (λ rs. AllZip (IsTheReply e) (map parts_of c.args.tasks.now)
    (map (λ (r : Vec ℕ Global). r.items) rs.items))) c.requires.worker c.group.ensures.replies
