-- A line that is within, before others that are.
use Rattle.calls.proofs.Imports.{length, sym, subst, OnTrue_at, drop_all, trees_in, IsLineWithin, AreLinesWithin}
use Rattle.calls.proofs.WithinLemmas.{line_before}
use Rattle.calls.proofs.certificate.are_lines_within.Goals as goal

pub loop-line-preserved : goal.loop-line-preserved
loop-line-preserved c =
    let n = length (trees_in c.args.scene.now.table) in
    λ rest. c.loop-line.invariant
    (line_before n c.args.lines.now c.loop-line.line-index c.line-item.result c.loop-line-test.true
    (subst (IsLineWithin n) c.line-item.is (OnTrue_at c.if-not-is_line_within.false c.is_line_within.ensures)) rest)

pub returns : goal.returns
returns c =
    let n = length (trees_in c.args.scene.now.table) in
    c.loop-line.invariant
    (subst (AreLinesWithin n) (sym (drop_all c.loop-line.line-index c.args.lines.now c.loop-line-test.false)) tt)
