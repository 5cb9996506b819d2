use Rattle.sm_exact.proofs.Imports.{◌≡◌, ◌<◌, ◌≤◌, ℕ, ℤ, pos, ◌-ℤ◌, true, length, get_or, drop, IsTrue, sym, ap, subst, refl, arith, add-one, ◌∙◌, IfOk-weaker, w128, fits_form, Linear, at, bounds_below, lower_bounds, upper_bounds, greatest_at, TellsError}
use mir.Val.{to_z, of_z}
use Rattle.sm_exact.proofs.BoundsLemmas.{passed, passed_turned, zero_less_fits}
use Rattle.sm_exact.proofs.SplintersLemmas.{stands_none, stands_tried, stands_outside}
use Rattle.sm_exact.proofs.splinters.next_bound.Goals as goal

pub returns-then-place-len : goal.returns-then-place-len
returns-then-place-len c = λ limit depth whole waits.
    stands_none limit c.args.s c.args.t c.args.frames.now.items c.args.forms.items c.args.from c.find_lower-place.result c.args.count
    depth
    whole
    (subst (λ l. lower_bounds c.args.t (drop c.args.from l) ≡ lower_bounds c.args.t (drop c.find_lower-place.result l))
    c.deref.ensures.value
    c.find_lower-place.ensures.skips)
    (omega (arith, c.args.forms.ok.0, c.len.ensures)) waits

pub overflow_sub-coefficient : goal.overflow_sub-coefficient
overflow_sub-coefficient c = zero_less_fits c.coefficient.result c.coefficient.ensures.range

pub splinter_count-requires : goal.splinter_count-requires
splinter_count-requires c =
    subst (λ (z : ℤ). IsTrue (fits_form z)) (sym (passed c.greatest_upper-m.result c.greatest_upper-m.ensures.range))
    c.greatest_upper-m.ensures.range

pub returns-in_ok-push-in-Ok : goal.returns-in_ok-push-in-Ok
returns-in_ok-push-in-Ok c = λ limit depth whole waits.
    let fs = c.args.forms.items in
    let t = c.args.t in
    let place = c.find_lower-place.result in
    let bound = c.in_ok-bound.bound in
    let m = c.greatest_upper-m.result in
    let b = c.coefficient.result in
    let skips = subst (λ l. lower_bounds t (drop c.args.from l) ≡ lower_bounds t (drop place l)) c.deref.ensures.value
    c.find_lower-place.ensures.skips in
    let up = subst (λ l. place ≤ length l) c.deref.ensures.value c.find_lower-place.ensures.up_to in
    let within : place < length fs = omega (arith, c.args.forms.ok.0, c.len.ensures) in
    let here : bound ≡ get_or fs place bound = subst (λ (f : Linear ℕ). f ≡ get_or fs place f) (sym c.in_ok-bound.ensures)
    c.index.ensures in
    let below = subst
    (λ l. place < length l → (f : Linear ℕ) → f ≡ get_or l place f → bounds_below t f ≡ true) c.deref.ensures.value
    c.find_lower-place.ensures.here within bound here in
    let first = passed m c.greatest_upper-m.ensures.range ∙ c.greatest_upper-m.ensures.value
    ∙ ap (λ l. greatest_at t (upper_bounds t l)) c.deref-2.ensures.value in
    let second = passed_turned b (at t bound) c.coefficient.ensures.range c.coefficient.ensures.value in
    stands_tried limit c.args.frames.now.items c.push.new.self.items _ c.args.from place c.args.count depth (to_z w128 (of_z w128 m))
    (to_z w128 (of_z w128 (pos 0 -ℤ to_z w128 (of_z w128 b)))) whole c.in_ok-push-in-Ok.ensures.items skips within here below first second
    c.in-Ok.ensures.value refl (add-one place) waits

pub returns-in-Err : goal.returns-in-Err
returns-in-Err c =
    let fs = c.args.forms.items in
    let t = c.args.t in
    let place = c.find_lower-place.result in
    let bound = c.in_ok-bound.bound in
    let m = c.greatest_upper-m.result in
    let b = c.coefficient.result in
    let skips = subst (λ l. lower_bounds t (drop c.args.from l) ≡ lower_bounds t (drop place l)) c.deref.ensures.value
    c.find_lower-place.ensures.skips in
    let up = subst (λ l. place ≤ length l) c.deref.ensures.value c.find_lower-place.ensures.up_to in
    let within : place < length fs = omega (arith, c.args.forms.ok.0, c.len.ensures) in
    let here : bound ≡ get_or fs place bound = subst (λ (f : Linear ℕ). f ≡ get_or fs place f) (sym c.in_ok-bound.ensures)
    c.index.ensures in
    let below = subst
    (λ l. place < length l → (f : Linear ℕ) → f ≡ get_or l place f → bounds_below t f ≡ true) c.deref.ensures.value
    c.find_lower-place.ensures.here within bound here in
    let first = passed m c.greatest_upper-m.ensures.range ∙ c.greatest_upper-m.ensures.value
    ∙ ap (λ l. greatest_at t (upper_bounds t l)) c.deref-2.ensures.value in
    let second = passed_turned b (at t bound) c.coefficient.ensures.range c.coefficient.ensures.value in
    IfOk-weaker c.beyond.result (TellsError c.in-Err.e) _
    (λ e tells limit depth whole waits.
    stands_outside limit c.args.s t c.args.frames.now.items fs c.args.from place c.args.count depth bound (to_z w128 (of_z w128 m))
    (to_z w128 (of_z w128 (pos 0 -ℤ to_z w128 (of_z w128 b)))) c.in-Err.e e whole skips within here below first second
    c.in-Err.ensures.value tells waits)
    c.beyond.ensures
