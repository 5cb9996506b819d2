use Rattle.sm_batch.proofs.Imports.{rules, subst, Task}
use Rattle.sm_batch.specs.Echo.{IsEcho}
use Rattle.sm_batch.proofs.tests.replies_to.Goals as goal

pub group-requires-clause-told : goal.group-requires-clause-told
group-requires-clause-told g c κs within = λ t a text may.
    subst (λ (x : Task). IsEcho c.args.batch.now.worker.eager x a) may.shows (search (rules, may.says.met))
