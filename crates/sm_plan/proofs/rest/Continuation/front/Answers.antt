-- What is still to be taken is taken from the slices that are left.
use Rattle.sm_plan.proofs.Imports.{◌≡◌, ◌+◌, ◌-◌, length, take, drop, sym, ap, ◌∙◌, arith, IfOk-weaker, End, front, code_before, frames_before, rest_code, Continuation}
use Rattle.sm_plan.proofs.RestsLemmas.{take_frame, drop_frame, front_within, front_past}
use Rattle.sm_plan.proofs.rest.Continuation.front.Goals as goal

pub returns-then-left-len : goal.returns-then-left-len
returns-then-left-len c =
    let fs = c.args.self.now.frames.items in
    let p = c.loop-place.place in
    let f = c.index-frame.result.now in
    let k = frames_before (take (p - 1) fs) End in
    let n = c.loop-place.left in
    let whole = take_frame fs p f End (omega arith) c.loop-place.invariant.0 c.index-frame.ensures in
    let next : (p - 1) + 1 ≡ p = omega arith in
    let made : frames_before (drop ((p - 1) + 1) fs) (code_before c.first_part.result.now End)
    ≡ front c.args.count (rest_code c.args.self.now) =
    ap (λ j. frames_before (drop j fs) (code_before c.first_part.result.now End)) next
    ∙ ap (λ ss. frames_before (drop p fs) (code_before ss End)) c.first_part.ensures
    ∙ ap (frames_before (drop p fs)) (sym (ap (front n) whole ∙ front_within f.now n k c.if-left-len.true))
    ∙ c.loop-place.invariant.1 in
    IfOk-weaker c.above.result _ _ (λ (r : Continuation) h. h ∙ made) c.above.ensures

pub loop-place-preserved : goal.loop-place-preserved
loop-place-preserved c =
    let fs = c.args.self.now.frames.items in
    let p = c.loop-place.place in
    let f = c.index-frame.result.now in
    let k = frames_before (take (p - 1) fs) End in
    let n = c.loop-place.left in
    let m = n - length f.now in
    let whole = take_frame fs p f End (omega arith) c.loop-place.invariant.0 c.index-frame.ensures in (
      omega (arith, c.loop-place.invariant.0),
      drop_frame fs p f (front m k) (omega arith) c.loop-place.invariant.0 c.index-frame.ensures
          ∙ ap (frames_before (drop p fs)) (sym (ap (front n) whole ∙ front_past f.now n m k (omega arith)))
          ∙ c.loop-place.invariant.1,
    )
