use Rattle.sm_exact.proofs.Imports.{◌+◌, drop, refl, ◌∙◌, Entered, entered, shadows, before}
use Rattle.sm_exact.proofs.EntryLemmas.{goes_list, going_other}
use Rattle.sm_exact.proofs.ShadowsLemmas.{rows_turn, rows_end}
use Rattle.sm_exact.proofs.shadows.enter_shadows.Goals as goal

pub loop-l-init : goal.loop-l-init
loop-l-init c = refl

pub returns-in_default : goal.returns-in_default
returns-in_default c =
    let ls = c.args.lower.now in
    let us = c.args.upper.now in
    let whole : Entered = before c.args.out.items (entered c.args.steps (shadows c.args.t ls us) c.args.count) in
    let e = c.in_ok-other.other in
    rows_turn whole c.args.steps c.args.t c.loop-l.l-index ls us c.l-item.result c.loop-l.so_far.items c.loop-l.counted e
    c.loop-l.invariant c.loop-l-test.true c.l-item.is c.in_ok-other.ensures
    ∙ going_other c.args.steps e (shadows c.args.t (drop (c.loop-l.l-index + 1) ls) us) c.in_default.not-List

pub loop-l-preserved : goal.loop-l-preserved
loop-l-preserved c =
    let ls = c.args.lower.now in
    let us = c.args.upper.now in
    let whole : Entered = before c.args.out.items (entered c.args.steps (shadows c.args.t ls us) c.args.count) in
    let e = c.in_ok-other.other in
    let goes = rows_turn whole c.args.steps c.args.t c.loop-l.l-index ls us c.l-item.result c.loop-l.so_far.items c.loop-l.counted e
    c.loop-l.invariant c.loop-l-test.true c.l-item.is c.in_ok-other.ensures in
    goes_list whole c.args.steps e (shadows c.args.t (drop (c.loop-l.l-index + 1) ls) us) c.in-List.forms c.in-List.count goes
    c.in-List.is

pub returns : goal.returns
returns c =
    let ls = c.args.lower.now in
    let us = c.args.upper.now in
    let whole : Entered = before c.args.out.items (entered c.args.steps (shadows c.args.t ls us) c.args.count) in
    rows_end whole c.args.steps c.args.t c.loop-l.l-index ls us c.loop-l.so_far.items c.loop-l.counted c.loop-l.invariant
    c.loop-l-test.false
