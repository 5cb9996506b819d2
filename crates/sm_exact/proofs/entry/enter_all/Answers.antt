-- The forms that are left go in behind those so far.
use Rattle.sm_exact.proofs.Imports.{◌+◌, map, drop, sym, ap, ◌∙◌, Enter, entered, before}
use Rattle.sm_exact.proofs.EntryLemmas.{turn_of, end_of, goes_list, going_other}
use Rattle.sm_exact.proofs.entry.enter_all.Goals as goal

pub loop-f-init : goal.loop-f-init
loop-f-init c = λ limit. ap (λ l. before l (entered limit (map Enter c.args.forms.now) 0)) (sym c.in_ok-out.ensures.items)

pub returns-in_default : goal.returns-in_default
returns-in_default c = λ limit.
    let goes = turn_of (entered limit (map Enter c.args.forms.now) 0) limit Enter c.loop-f.f-index c.args.forms.now c.f-item.result
    c.loop-f.out.items
    c.loop-f.counted c.in_ok-other.other (c.loop-f.invariant limit) c.loop-f-test.true c.f-item.is (c.in_ok-other.ensures limit) in
    goes ∙ going_other limit c.in_ok-other.other (map Enter (drop (c.loop-f.f-index + 1) c.args.forms.now)) c.in_default.not-List

pub loop-f-preserved : goal.loop-f-preserved
loop-f-preserved c = λ limit.
    let goes = turn_of (entered limit (map Enter c.args.forms.now) 0) limit Enter c.loop-f.f-index c.args.forms.now c.f-item.result
    c.loop-f.out.items
    c.loop-f.counted c.in_ok-other.other (c.loop-f.invariant limit) c.loop-f-test.true c.f-item.is (c.in_ok-other.ensures limit) in
    goes_list (entered limit (map Enter c.args.forms.now) 0) limit c.in_ok-other.other
    (map Enter (drop (c.loop-f.f-index + 1) c.args.forms.now))
    c.in-List.forms c.in-List.count goes c.in-List.is

pub returns : goal.returns
returns c = λ limit.
    end_of (entered limit (map Enter c.args.forms.now) 0) limit Enter c.loop-f.f-index c.args.forms.now c.loop-f.out.items c.loop-f.counted
    (c.loop-f.invariant limit) c.loop-f-test.false
