-- A line more.
use Rattle.sm_houdini.proofs.ShortLemmas.{lines_short}
use Rattle.sm_houdini.proofs.short.are_short_lines.Goals as goal

pub loop-line-preserved : goal.loop-line-preserved
loop-line-preserved c = λ trees k short.
    lines_short trees c.args.lines.now c.loop-line.line-index c.line-item.result k (c.loop-line.invariant trees) c.loop-line-test.true
    c.line-item.is ((c.is_short_line.ensures trees).0 c.if-not-is_short_line.false) short
