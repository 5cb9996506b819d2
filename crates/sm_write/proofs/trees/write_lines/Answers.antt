-- Each line that is written is left no more.
use Rattle.sm_write.proofs.Imports.{◌≡◌, ◌+◌, ◌∷◌, drop, length, ap, sym, subst, ◌∙◌, drop_more, trees_in, IsLineWithin, CertLine, within_at, LinesLeft, value_of}
use Rattle.sm_write.proofs.SteppedLemmas.{line_left, drop_past}
use Rattle.sm_write.proofs.trees.write_lines.Goals as goal

pub write_line-requires : goal.write_line-requires
write_line-requires c =
    subst (IsLineWithin (length (trees_in c.args.table.now))) (sym c.line-item.is)
    (within_at (length (trees_in c.args.table.now)) c.args.lines.now c.loop-line.line-index c.line-item.result c.requires
    c.loop-line-test.true)

pub loop-line-preserved : goal.loop-line-preserved
loop-line-preserved c =
    let v = c.args.table.now in
    let lines = c.args.lines.now in
    let i = c.loop-line.line-index in
    let l = c.line-item.result in
    let old = value_of c.args.w.now in
    let mid = value_of c.loop-line.w in
    let next : drop i lines ≡ l ∷ drop (i + 1) lines =
    drop_more lines i l c.loop-line-test.true ∙ ap (λ (m : CertLine). m ∷ drop (i + 1) lines) (sym c.line-item.is) in
    line_left v old mid (value_of c.write_line.new.w) lines (drop (i + 1) lines) l
    (subst (LinesLeft v old mid lines) next c.loop-line.invariant) c.in_ok-write_line.ensures

pub returns : goal.returns
returns c =
    subst (LinesLeft c.args.table.now (value_of c.args.w.now) (value_of c.loop-line.w) c.args.lines.now)
    (drop_past c.args.lines.now c.loop-line.line-index c.loop-line-test.false) c.loop-line.invariant
