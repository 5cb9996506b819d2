-- The slices that were passed stand behind the last one.
use Rattle.sm_plan.proofs.Imports.{◌≡◌, take, End, code_before, frames_before}
use Rattle.sm_plan.proofs.rest.Continuation.above.Given as goal

abbrev pub invariant-loop-frame : goal.invariant-loop-frame
invariant-loop-frame l = frames_before l.frames.items End ≡ frames_before (take l.frame-index l.frame-items) (code_before l.last End)
