-- The first statement of the last slice that has one.
use Rattle.sm_plan.proofs.Imports.{◌-◌, take, drop, sym, ◌∙◌, arith, End, code_before, frames_before, rest_code}
use Rattle.sm_plan.proofs.RestsLemmas.{take_frame, head_is, no_head, begins}
use Rattle.sm_plan.proofs.rest.Continuation.first.Goals as goal

pub returns-in-Some : goal.returns-in-Some
returns-in-Some c =
    let fs = c.args.self.now.frames.items in
    let p = c.loop-place.place in
    let f = c.index-frame.result.now in
    let k = frames_before (take (p - 1) fs) End in
    let s = c.in-Some.statement.now in
    let whole = sym c.loop-place.invariant.1 ∙ take_frame fs p f End (omega arith) c.loop-place.invariant.0 c.index-frame.ensures in
    begins (rest_code c.args.self.now) s (code_before (drop 1 f.now) k) (whole ∙ head_is f.now s k c.in-Some.ensures.value)

pub loop-place-preserved : goal.loop-place-preserved
loop-place-preserved c =
    let fs = c.args.self.now.frames.items in
    let p = c.loop-place.place in
    let f = c.index-frame.result.now in
    let k = frames_before (take (p - 1) fs) End in (
      omega (arith, c.loop-place.invariant.0),
      sym (no_head f.now k c.in_default.ensures.value)
          ∙ sym (take_frame fs p f End (omega arith) c.loop-place.invariant.0 c.index-frame.ensures)
          ∙ c.loop-place.invariant.1,
    )
