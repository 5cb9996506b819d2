use Rattle.sm_answers.proofs.Imports.{◌≢◌, rules, parts_of}
use Rattle.sm_check.proofs.SpelledCheckable.{spelled_checkable}
use Rattle.sm_replay.proofs.NamesFound.{spelled_found}
use Rattle.sm_task.specs.declared.error.TaskError.TheVariants as no_task
use Rattle.sm_answers.proofs.Answering.{is_no_task}
use Rattle.sm_answers.proofs.file.task_from.Goals as goal

pub returns-in-Ok-clause-named : goal.returns-in-Ok-clause-named
returns-in-Ok-clause-named c = spelled_found c.args.bytes.now (parts_of c.in-Ok.task) c.in-Ok.ensures.ok

pub returns-in-Ok-clause-checkable : goal.returns-in-Ok-clause-checkable
returns-in-Ok-clause-checkable c = spelled_checkable c.args.bytes.now (parts_of c.in-Ok.task) c.in-Ok.ensures.ok

pub returns-in_ok-text-in-Err : goal.returns-in_ok-text-in-Err
returns-in_ok-text-in-Err c =
    let some : c.in-Err.error ≢ no_task.Memory = search rules in
    record {
      ok = tt;
      printable = tt;
      runs = tt;
      named = tt;
      checkable = tt;
      exit = is_no_task c.args.bytes.now c.in-Err.error c.in_ok-names-in-Err.names c.in_ok-text-in-Err.text.items some
          (c.in-Err.ensures.err some) c.in_ok-names-in-Err.ensures c.in_ok-text-in-Err.ensures;
    }
