use Rattle.sm_exact.proofs.Imports.{◌++◌, ◌+◌, ℕ, map, drop, refl, ◌∙◌, Linear, Item, Count, Entered, entered, shadow, before}
use Rattle.sm_exact.proofs.EntryLemmas.{goes_list}
use Rattle.sm_exact.proofs.ShadowsLemmas.{row_turn, row_end, going_same}
use Rattle.sm_exact.proofs.shadows.enter_row.Goals as goal

pub loop-u-init : goal.loop-u-init
loop-u-init c = λ rest. refl

pub returns-in_default : goal.returns-in_default
returns-in_default c = λ rest.
    let item : Linear ℕ → Item = λ (u : Linear ℕ). Count (shadow c.args.t c.args.l.now u) in
    let us = c.args.upper.now in
    let whole : Entered = before c.args.out.items (entered c.args.steps (map item us ++ rest) c.args.count) in
    let e = c.in_ok-other.other in
    row_turn whole c.args.steps item c.loop-u.u-index us c.u-item.result c.loop-u.so_far.items c.loop-u.counted e rest
    (c.loop-u.invariant rest) c.loop-u-test.true c.u-item.is c.in_ok-other.ensures
    ∙ going_same c.args.steps e (map item (drop (c.loop-u.u-index + 1) us) ++ rest) rest c.in_default.not-List

pub loop-u-preserved : goal.loop-u-preserved
loop-u-preserved c = λ rest.
    let item : Linear ℕ → Item = λ (u : Linear ℕ). Count (shadow c.args.t c.args.l.now u) in
    let us = c.args.upper.now in
    let whole : Entered = before c.args.out.items (entered c.args.steps (map item us ++ rest) c.args.count) in
    let e = c.in_ok-other.other in
    let goes = row_turn whole c.args.steps item c.loop-u.u-index us c.u-item.result c.loop-u.so_far.items c.loop-u.counted e rest
    (c.loop-u.invariant rest) c.loop-u-test.true c.u-item.is c.in_ok-other.ensures in
    goes_list whole c.args.steps e (map item (drop (c.loop-u.u-index + 1) us) ++ rest) c.in-List.forms c.in-List.count goes c.in-List.is

pub returns : goal.returns
returns c = λ rest.
    let item : Linear ℕ → Item = λ (u : Linear ℕ). Count (shadow c.args.t c.args.l.now u) in
    let us = c.args.upper.now in
    let whole : Entered = before c.args.out.items (entered c.args.steps (map item us ++ rest) c.args.count) in
    row_end whole c.args.steps item c.loop-u.u-index us c.loop-u.so_far.items c.loop-u.counted rest (c.loop-u.invariant rest)
    c.loop-u-test.false
