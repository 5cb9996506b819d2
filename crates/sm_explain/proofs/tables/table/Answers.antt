-- The filled programs are those of the task.
use Rattle.std.specs.Result.{IfErr}
use Rattle.sm_explain.proofs.Imports.{Copy, program_of, Code, task_of, parts_of, meaning, Halts}
use Rattle.sm_explain.proofs.TableOutputs.{of_filled}
use Rattle.sm_explain.proofs.tables.table.Goals as goal

pub returns-clause-err : goal.returns-clause-err
returns-clause-err c =
    of_filled (λ (p : Copy → Code). IfErr c.run_table.result (Halts p (meaning c.args.input.now) c.args.turns))
    (program_of (task_of (parts_of c.args.task.now))) c.args.programs.now c.requires.filled c.run_table.ensures.err
