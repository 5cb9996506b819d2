use Rattle.sm_solve.proofs.Imports.{◌≤◌, length, sym, subst, ◌∙◌, arith, take_all}
use Rattle.sm_solve.proofs.ReadingLemmas.{LeadTo, lead_more}
use Rattle.sm_solve.proofs.reading.name_what_they_read.Goals as goal

pub loop-line-preserved : goal.loop-line-preserved
loop-line-preserved c =
    lead_more c.args.lines.now c.loop-line.line-index c.line-item.result c.loop-line-test.true c.line-item.is
    (λ trees. sym c.if-reads_all.false ∙ c.reads_all.ensures trees) c.loop-line.invariant

pub returns : goal.returns
returns c = λ same.
    let past : length c.args.lines.now ≤ c.loop-line.line-index = omega arith in
    subst LeadTo (take_all c.loop-line.line-index c.args.lines.now past) c.loop-line.invariant
