use Rattle.sm_solve.proofs.Imports.{sym, ◌∙◌, arith, take_all}
use Rattle.sm_solve.proofs.InconsistentLemmas.{same_longer}
use Rattle.sm_solve.proofs.same_forms.are_same.Goals as goal

pub returns : goal.returns
returns c = λ same.
    let i = c.loop-i.i in
    let long = c.if-forms-others.false in
    let done = c.loop-i-test.false in
    sym (take_all i c.args.forms.now done) ∙ c.loop-i.invariant ∙ take_all i c.args.others.now (omega (arith, long, done))

pub loop-i-preserved : goal.loop-i-preserved
loop-i-preserved c =
    let long = c.if-forms-others.false in
    let less = c.loop-i-test.true in
    same_longer c.args.forms.now c.args.others.now c.loop-i.i c.index-forms-i.result c.index-others-i.result less
    (omega (arith, long, less)) c.loop-i.invariant c.index-forms-i.is c.index-others-i.is (c.is_same.ensures c.if-not-is_same.false)
