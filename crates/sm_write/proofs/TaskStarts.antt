-- The state that a writer begins with is the start of its task.
use Rattle.sm_write.proofs.Imports.{◌≡◌, Bor, Option, option_map, ap, ◌∙◌, fun_ext, Copy, Condition, sorted_outputs, task_of, of_copy, PerCopy, State, start_of, start_state, parts_of, assumed_same}
use Rattle.std.specs.Option.{option_copied}
use Rattle.sm_syntax.specs.trees.Views.{condition_of, code_of}
use Rattle.sm_syntax.specs.declared.tree.Block.{Block}
use Rattle.sm_syntax.specs.declared.tree.Cond.{Cond}
use Rattle.sm_task.specs.Filling.{AreFilled}
use Rattle.sm_text.specs.declared.task.Task.{Task}

-- the start that was made is that of the task
pub start_is : (task : Task) (programs : PerCopy Block) (o : Option (Bor Cond)) (st : State) → AreFilled (parts_of task) programs →
    option_copied o ≡ task.assumed →
    st ≡ start_of (option_map (λ (b : Bor Cond). condition_of b.now) o)
    (sorted_outputs (parts_of task).declared (parts_of task).outputs) (λ (c : Copy). code_of (of_copy programs c)) →
    st ≡ start_state (task_of (parts_of task))
start_is task programs o st filled assumed made =
    let t = parts_of task in
    let outputs = sorted_outputs t.declared t.outputs in
    made ∙ ap (λ (b : Option Condition). start_of b outputs (λ (c : Copy). code_of (of_copy programs c))) (assumed_same o task.assumed assumed)
    ∙ ap (start_of t.assumed outputs) (fun_ext filled)
