use Rattle.sm_check.proofs.SpelledCheckable.{spelled_checkable}
use Rattle.sm_task.specs.Tasks.{parts_of}
use Rattle.sm_replies.proofs.batch_worker.CheckingWorker.recheck.Goals as goal

pub check_bytes-requires : goal.check_bytes-requires
check_bytes-requires c = spelled_checkable c.requires.0 (parts_of c.args.task.now) c.requires.1
