-- Each turn adds one line under the other numbers.
use Rattle.sm_list.proofs.Imports.{List, subst, take_all, CertLine, AreLinesUnder}
use Rattle.sm_list.proofs.RenumberLemmas.{lines_next}
use Rattle.sm_list.proofs.renumber_lines.renumbered_lines.Goals as goal

pub loop-line-preserved : goal.loop-line-preserved
loop-line-preserved c =
    lines_next c.args.numbers.now c.args.lines.now c.loop-line.line-index c.loop-line.list.items c.push.new.self.items c.line-item.result
    c.in_ok-line_under.field-0 c.loop-line-test.true c.line-item.is c.in_ok-push.ensures.items c.loop-line.invariant
    c.in_ok-line_under.ensures

pub returns : goal.returns
returns c =
    subst (λ (ls : List CertLine). AreLinesUnder c.args.numbers.now ls c.loop-line.list.items)
    (take_all c.loop-line.line-index c.args.lines.now c.loop-line-test.false) c.loop-line.invariant
