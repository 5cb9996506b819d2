-- A task by its parts: what a plan asks of it, and where its proof starts.
use Rattle.sm_audit.proofs.Imports.{◌≡◌, Bor, Option, option_map, refl, sym, ap, Copy, sorted_outputs, task_of, of_copy, parts_of}
use Rattle.std.specs.Option.{option_copied}
use Rattle.sm_syntax.specs.declared.copies.PerCopy.{PerCopy}
use Rattle.sm_syntax.specs.trees.Views.{condition_of, code_of}
use Rattle.sm_syntax.specs.declared.tree.Block.{Block}
use Rattle.sm_syntax.specs.declared.tree.Cond.{Cond}
use Rattle.sm_task.specs.Filling.{AreFilled}
use Rattle.sm_text.specs.declared.task.Task.{Task}
use Rattle.sm_expand.specs.Tasks.{HasParts}
use Rattle.sm_syntax.proofs.Assumed.{assumed_same}

-- a task has the parts of its tree
pub has_parts : (task : Task) (programs : PerCopy Block) (o : Option (Bor Cond)) → AreFilled (parts_of task) programs →
    option_copied o ≡ task.assumed →
    HasParts (task_of (parts_of task)) (option_map (λ (b : Bor Cond). condition_of b.now) o)
    (sorted_outputs (parts_of task).declared (parts_of task).outputs) (λ (c : Copy). code_of (of_copy programs c))
has_parts task programs o filled assumed = record {
  assumes = sym (assumed_same o task.assumed assumed);
  asks = refl;
  programs = λ (c : Copy). sym (filled c);
}
