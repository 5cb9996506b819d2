-- The ends of the filled programs are those of the task's.
use Rattle.sm_explain.proofs.Imports.{List, subst, ◌∙◌, Name, Copy, O, program_of, Code, task_of, Sorts, parts_of, meaning, sorts_of, end_in, AreRows}
use Rattle.sm_syntax.specs.trees.Programs.{declared_of}
use Rattle.sm_replay.specs.Violations.{AreEnds}
use Rattle.sm_replay.proofs.RunnableTasks.{filled_sorted, sorted_runs}
use Rattle.sm_replay.proofs.RunsSound.{same_sorts}
use Rattle.sm_explain.proofs.TableOutputs.{sorted, of_filled}
use Rattle.sm_explain.proofs.tables.run_table.Goals as goal

pub ends_of-requires : goal.ends_of-requires
ends_of-requires c =
    sorted_runs (declared_of c.args.task.now.shared.decls)
    (sorts_of c.args.input.now) c.args.programs.now
    (filled_sorted (parts_of c.args.task.now) c.args.programs.now c.requires.runs c.requires.filled) c.requires.declared

pub table_of-requires : goal.table_of-requires
table_of-requires c = same_sorts c.in_ok-ends.ends (sorts_of c.args.input.now) c.in_ok-ends.ensures.sorts

pub returns-clause-ok : goal.returns-clause-ok
returns-clause-ok c =
    let t = parts_of c.args.task.now in
    let s = meaning c.args.input.now in
    let end = end_in c.in_ok-ends.ends in
    let text = c.in_ok-table_of.field-0.items in
    let lines = λ (sorts : Sorts) (outputs : List Name). AreRows t.names end (sorted sorts outputs) text in
    record {
      end = end;
      ends = of_filled (λ (p : Copy → Code). AreEnds p s c.args.turns end) (program_of (task_of t)) c.args.programs.now
          c.requires.filled c.in_ok-ends.ensures.ends;
      rows = subst (λ (sorts : Sorts). lines sorts c.args.task.now.shared.outputs.list.items)
          (c.in_ok-ends.ensures.sorts O ∙ c.requires.declared)
          (subst (lines (sorts_of c.in_ok-ends.ends.base)) c.deref.ensures.value c.in_ok-table_of.ensures);
    }
