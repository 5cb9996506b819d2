-- By what the reading gives.
use Rattle.sm_follow.proofs.Imports.{Bool, Result, sym, subst, Decides, IfOk, AllocError, parts_of, IsBegun}
use Rattle.sm_follow.proofs.Judged.{begun_decides}
use Rattle.sm_follow.proofs.following.is_begun.Goals as goal
use Rattle.sm_follow.proofs.following.is_begun.Goals.{in-Err, in-Ok}

pub returns : goal.returns
returns c =
    let Tells : Result Bool AllocError → Type 0 = λ r. IfOk r (λ tells. Decides tells (IsBegun c.args.text.now)) in
    elim c.match-read_task.branch [
      | in-Ok w ↦ subst Tells (sym w.result-is) (begun_decides c.args.text.now (parts_of w.in-Ok.field-0) w.in-Ok.ensures.ok)
      | in-Err w ↦ subst Tells (sym w.result-is) w.goes_on.ensures
    ]
