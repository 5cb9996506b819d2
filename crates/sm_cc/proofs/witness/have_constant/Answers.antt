use Rattle.sm_cc.proofs.Imports.{◌≡◌, ℕ, ◌<◌, length, false, sym, ◌∙◌, below_more, arith, is_constant_of}
use Rattle.sm_cc.proofs.CausesLemmas.{none_in}
use Rattle.sm_cc.proofs.SoundLemmas.{any_in}
use Rattle.sm_cc.proofs.witness.have_constant.Goals as goal

pub returns-then-is_constant_of : goal.returns-then-is_constant_of
returns-then-is_constant_of c =
    let rows = c.args.c.now.rows.items in
    sym (any_in (is_constant_of c.args.c.now c.args.i c.args.j) (length rows) c.loop-p.p (omega (arith, c.loop-p-test.true, c.len-p-end.ensures))
    (sym c.is_constant_of.ensures ∙ c.if-is_constant_of.true))

pub loop-p-preserved : goal.loop-p-preserved
loop-p-preserved c =
    below_more (λ (m : ℕ). is_constant_of c.args.c.now c.args.i c.args.j m ≡ false) c.loop-p.p c.loop-p.invariant
    (sym c.is_constant_of.ensures ∙ c.if-is_constant_of.false)

pub returns : goal.returns
returns c =
    let rows = c.args.c.now.rows.items in
    sym (none_in (is_constant_of c.args.c.now c.args.i c.args.j) (length rows)
    (λ (m : ℕ) (h : m < length rows). c.loop-p.invariant m (omega (arith, c.loop-p-test.false, c.len-p-end.ensures, c.loop-p.auto.p-end))))
