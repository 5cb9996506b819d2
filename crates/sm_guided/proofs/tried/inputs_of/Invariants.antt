-- Each store so far is an input.
use Rattle.std.specs.Prelude.{All}
use Rattle.sm_task.specs.Tasks.{parts_of}
use Rattle.sm_guided.specs.Inputs.{IsInput}
use Rattle.sm_guided.proofs.tried.inputs_of.Given as goal

abbrev pub invariant-loop-input : goal.invariant-loop-input
invariant-loop-input l = All (IsInput (parts_of l.setting.task.now)) l.list.items
