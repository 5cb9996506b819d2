-- The places before, one place more, and then all.
use Rattle.sm_cc.proofs.Imports.{◌≡◌, ℕ, None, ap, length, sym, subst, arith, rules, Key, met_at, headed_at, TriesFirsts, over_at}
use Rattle.sm_cc.proofs.FirstsLemmas.{firsts_tried_more, firsts_tried_all, headed_bring}
use Rattle.sm_cc.proofs.RegroundingLemmas.{headed_before}
use Rattle.sm_cc.proofs.regrounding.relate_headed_behind.Goals as goal

pub loop-i-init : goal.loop-i-init
loop-i-init c =
    let g = c.args.ground.now in
    let old = c.args.c.now in
    let none : (v : Key) → met_at c.new-met.result v.items ≡ None = λ (v : Key). search rules in
    let count : length g.closure.rows.items ≡ c.len-i.result = omega (arith, c.len-i.ensures) in
    subst (λ (n : ℕ). TriesFirsts headed_at n old old (over_at (met_at g.headed) (met_at c.new-met.result))) count
    (headed_before g old (met_at g.headed) (met_at c.new-met.result) c.requires.sound c.requires.over c.requires.labels
    c.requires.over.keyed.headed none)

pub head_key-requires : goal.head_key-requires
head_key-requires c =
    let count = ap (λ e. length e.items) c.loop-i.invariant.grows.rows in
    omega (arith, count, c.loop-i-test.true, c.len-i-end.ensures)

pub loop-i-preserved : goal.loop-i-preserved
loop-i-preserved c =
    let base = met_at c.args.ground.now.headed in
    let old = c.loop-i.c in
    firsts_tried_more headed_at c.loop-i.i c.args.c.now old c.relate_first_over.new.c (over_at base (met_at c.loop-i.met))
    (over_at base (met_at c.relate_first_over.new.met)) c.loop-i.invariant
    (c.in_ok-relate_first_over.ensures (headed_at old) (headed_bring old) (sym c.in_ok-key.ensures))

pub returns : goal.returns
returns c =
    firsts_tried_all headed_at c.loop-i.i c.args.c.now c.loop-i.c (over_at (met_at c.args.ground.now.headed) (met_at c.loop-i.met))
    (omega (arith, c.loop-i-test.false, c.len-i-end.ensures)) c.loop-i.invariant
