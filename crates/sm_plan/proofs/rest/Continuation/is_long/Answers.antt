-- Each slice has its statements or as many as are wanted.
use Rattle.sm_plan.proofs.Imports.{◌-◌, length, take, sym, ap, ◌∙◌, arith, End, is_long, frames_before}
use Rattle.sm_plan.proofs.RestsLemmas.{take_frame, long_within, long_past}
use Rattle.sm_plan.proofs.rest.Continuation.is_long.Goals as goal

pub returns-then-left-len : goal.returns-then-left-len
returns-then-left-len c =
    let fs = c.args.self.now.frames.items in
    let p = c.loop-place.place in
    let f = c.index.result.now in
    let k = frames_before (take (p - 1) fs) End in
    let whole = take_frame fs p f End (omega arith) c.loop-place.invariant.0 c.index.ensures in
    sym (sym c.loop-place.invariant.1 ∙ ap (is_long c.loop-place.left) whole ∙ long_within f.now c.loop-place.left k c.if-left-len.true)

pub loop-place-preserved : goal.loop-place-preserved
loop-place-preserved c =
    let fs = c.args.self.now.frames.items in
    let p = c.loop-place.place in
    let f = c.index.result.now in
    let k = frames_before (take (p - 1) fs) End in
    let n = c.loop-place.left in
    let whole = take_frame fs p f End (omega arith) c.loop-place.invariant.0 c.index.ensures in (
      omega (arith, c.loop-place.invariant.0),
      sym (ap (is_long n) whole ∙ long_past f.now n (n - length f.now) k (omega arith)) ∙ c.loop-place.invariant.1,
    )
