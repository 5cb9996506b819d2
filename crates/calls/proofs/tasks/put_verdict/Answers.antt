-- A proof of each task that some text spells may be checked.
use Rattle.sm_check.proofs.SpelledCheckable.{spelled_checkable}
use Rattle.calls.proofs.tasks.put_verdict.Goals as goal

pub check_bytes-requires : goal.check_bytes-requires
check_bytes-requires c = spelled_checkable c.requires.0 _ c.requires.1
