-- A line that fits, before others that do.
use Rattle.sm_audit.proofs.Imports.{sym, subst, OnTrue_at, drop_all, AreLinesFit, IsLineFit}
use Rattle.sm_audit.proofs.KnownLemmas.{line_before}
use Rattle.sm_audit.proofs.checking.are_lines_fit.Goals as goal

pub loop-line-preserved : goal.loop-line-preserved
loop-line-preserved c = λ rest.
    c.loop-line.invariant
    (line_before c.args.since.now c.args.node c.args.lines.now c.loop-line.line-index c.line-item.result c.loop-line-test.true
    (subst (IsLineFit c.args.since.now c.args.node) c.line-item.is (OnTrue_at c.if-not-is_line_fit.false c.is_line_fit.ensures)) rest)

pub returns : goal.returns
returns c =
    c.loop-line.invariant
    (subst (AreLinesFit c.args.since.now c.args.node)
    (sym (drop_all c.loop-line.line-index c.args.lines.now c.loop-line-test.false)) tt)
