-- The last slice is shortened or taken off.
use Rattle.sm_plan.proofs.Imports.{◌≡◌, ◌+◌, ◌-◌, length, take, sym, ap, ◌∙◌, arith, ◌≤◌, length-take-le, End, rest_after, code_before, frames_before}
use Rattle.sm_plan.proofs.RestsLemmas.{whole_frames, last_set, after_within, after_past}
use Rattle.sm_plan.proofs.rest.Continuation.drop_front.Goals as goal

pub returns-then-left-len : goal.returns-then-left-len
returns-then-left-len c =
    let fs = c.loop-place.self.frames.items in
    let i = c.loop-place.place - 1 in
    let f = c.index-frame.result.now in
    let k = frames_before (take i fs) End in
    let n = c.loop-place.left in
    let last : i + 1 ≡ length fs = omega (arith, c.loop-place-test.true, c.loop-place.invariant.0) in
    let whole = whole_frames fs i f End last c.index-frame.ensures in
    let there : n ≤ length f.now = omega arith in
    last_set fs i c.last_part.result End last
    ∙ ap (λ ss. code_before ss k) c.last_part.ensures
    ∙ sym (ap (rest_after n) whole ∙ after_within f.now n k there)
    ∙ c.loop-place.invariant.1

pub loop-place-preserved : goal.loop-place-preserved
loop-place-preserved c =
    let fs = c.loop-place.self.frames.items in
    let i = c.loop-place.place - 1 in
    let f = c.index-frame.result.now in
    let k = frames_before (take i fs) End in
    let n = c.loop-place.left in
    let m = n - length f.now in
    let last : i + 1 ≡ length fs = omega (arith, c.loop-place-test.true, c.loop-place.invariant.0) in
    let whole = whole_frames fs i f End last c.index-frame.ensures in
    let split : n ≡ length f.now + m = omega arith in
    let short = ap length c.truncate.ensures.items in (
      omega (arith, length-take-le i fs (omega arith)),
      ap (λ l. rest_after m (frames_before l End)) c.truncate.ensures.items
          ∙ sym (ap (rest_after n) whole ∙ after_past f.now n m k split)
          ∙ c.loop-place.invariant.1,
    )
