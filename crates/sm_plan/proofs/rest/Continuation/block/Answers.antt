-- One slice more is copied.
use Rattle.sm_plan.proofs.Imports.{◌-◌, take, sym, ap, ◌∙◌, arith, map, End, sequence, statement_of, frames_before}
use Rattle.sm_plan.proofs.RestsLemmas.{take_frame}
use Rattle.sm_plan.proofs.rest.Continuation.block.Goals as goal

pub loop-place-preserved : goal.loop-place-preserved
loop-place-preserved c =
    let fs = c.args.self.now.frames.items in
    let p = c.loop-place.place in
    let f = c.index.result.now in
    let k = frames_before (take (p - 1) fs) End in (
      omega (arith, c.loop-place.invariant.0),
      c.in_ok-copy_behind.ensures k
          ∙ ap (sequence (map statement_of c.loop-place.list.items))
          (sym (take_frame fs p f End (omega arith) c.loop-place.invariant.0 c.index.ensures))
          ∙ c.loop-place.invariant.1,
    )
