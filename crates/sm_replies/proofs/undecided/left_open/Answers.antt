use Rattle.sm_replies.proofs.Imports.{List, ℕ, subst, Open, Goal, IsUndecided}
use Rattle.std.specs.Prelude.{IfOk}
use Rattle.sm_task.specs.Tasks.{parts_of}
use Rattle.sm_replies.proofs.undecided.left_open.Goals as goal

pub returns : goal.returns
returns c =
    subst (λ (line : List ℕ). IfOk c.undecided.result (IsUndecided (parts_of c.args.task.now) line (Goal Open c.args.goal)))
    c.in_ok-text.ensures c.undecided.ensures
