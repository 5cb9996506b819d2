-- The place was met for its keys, and has a label.
use Rattle.sm_cc.proofs.Imports.{◌≡◌, ◌∙◌, ◌+◌, ◌++◌, ℕ, true, Some, List, length, slice_get, refl, sym, ap, subst, arith, slice_get_read, Scanned, AreFirsts, met_at, row_key, alike_in, headed_in, any_two, IsMetFor, IsLabelFor, AreLooked, over_at}
use Rattle.sm_cc.specs.declared.log.Equation.{Equation}
use Rattle.sm_cc.specs.BaseClasses.{AreBelow}
use Rattle.sm_cc.proofs.LookedLemmas.{alike_behind, headed_behind, looked_more}
use Rattle.sm_cc.proofs.behind.look_at.Goals as goal

pub returns-clause-looked : goal.returns-clause-looked
returns-clause-looked c =
    let g = c.args.ground.now in
    let more = c.args.more.now in
    let s = c.args.s.now in
    let k = c.args.k in
    let roots = s.roots.items in
    let row = c.index-more-k.result in
    let place = c.len-place.result in
    let count : place ≡ length roots = omega (arith, c.len-place.ensures) in
    let is : place ≡ length g.closure.rows.items + k = count ∙ c.requires.place in
    let here : slice_get more k ≡ Some row = slice_get_read more (length more) k row refl c.requires.there c.index-more-k.is in
    let alike_key = alike_behind g more place k row is here ∙ sym c.in_ok-form.ensures in
    let headed_key =
    headed_behind g more roots place k row is (sym count) here
    ∙ ap (λ rs. row_key rs row) (sym c.deref.ensures.value) ∙ sym c.in_ok-head.ensures in
    let all = g.closure.rows.items ++ more in
    let first = length g.closure.rows.items in
    let met = over_at (met_at g.alike) (met_at s.alike) in
    let met_headed = over_at (met_at g.headed) (met_at s.headed) in
    let alike_before : AreFirsts (alike_in all) any_two met place =
    subst (λ (n : ℕ). AreFirsts (alike_in all) any_two met n) (sym count) c.requires.looked.alike in
    let headed_before : AreFirsts (headed_in first all roots) any_two met_headed place =
    subst (λ (n : ℕ). AreFirsts (headed_in first all roots) any_two met_headed n) (sym count) c.requires.looked.headed in
    let a = c.in_ok-alike.alike in
    let h = c.in_ok-headed.headed in
    let right = c.label_for-right.result in
    let e : Equation = record { left = place; right = right; entry = 0 } in
    let alike_now = c.meet_over.new.met in
    let headed_now = c.meet_over-2.new.met in
    let t : Scanned =
    record { roots = c.push.new.self; alike = alike_now; headed = headed_now; are_new = c.are_still_new-s.result } in
    let label = subst (λ (rs : List Equation). IsLabelFor rs place h a right) c.deref-2.ensures.value c.label_for-right.ensures.label in
    let news : t.are_new ≡ true →
    (s.are_new ≡ true) × (a ≡ place) × (h ≡ place) × AreBelow place row.arguments.items = λ (is : t.are_new ≡ true).
    let x = c.are_still_new-s.ensures is in
    (x.0, x.1, x.2, subst (λ (ns : List ℕ). AreBelow place ns) c.deref-3.ensures.value x.3) in
    subst
    (λ (n : ℕ).
    AreFirsts (alike_in all) any_two (over_at (met_at g.alike) (met_at alike_now)) (n + 1) → IsMetFor (alike_in all) n a →
    AreFirsts (headed_in first all roots) any_two (over_at (met_at g.headed) (met_at headed_now)) (n + 1) →
    IsMetFor (headed_in first all roots) n h → IsLabelFor roots n h a right → (h ≡ n → a ≡ n → right ≡ n) →
    (t.are_new ≡ true → (s.are_new ≡ true) × (a ≡ n) × (h ≡ n) × AreBelow n row.arguments.items) → AreLooked g more t)
    (sym count)
    (looked_more g more s t k row e a h c.requires.looked c.requires.place here c.in_ok-push.ensures.items)
    (c.in_ok-alike.ensures.firsts (alike_in all) alike_key alike_before)
    (c.in_ok-alike.ensures.met (alike_in all) alike_key alike_before)
    (c.in_ok-headed.ensures.firsts (headed_in first all roots) headed_key headed_before)
    (c.in_ok-headed.ensures.met (headed_in first all roots) headed_key headed_before) label c.label_for-right.ensures.own news
