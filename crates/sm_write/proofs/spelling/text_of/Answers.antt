use Rattle.sm_write.proofs.Imports.{◌≡◌, ◌∙◌, ◌+◌, ◌∷◌, ◌++◌, ℕ, List, drop, map, ap, sym, subst, drop_more, Line, bytes_of}
use Rattle.sm_proof.specs.Lines.{line_of}
use Rattle.sm_write.proofs.RereadingLemmas.{written_more}
use Rattle.sm_write.proofs.spelling.text_of.Goals as goal

pub loop-line-preserved : goal.loop-line-preserved
loop-line-preserved c =
    let lines = c.args.lines.now in
    let i = c.loop-line.line-index in
    let l = c.line-item.result in
    let next = drop_more lines i l c.loop-line-test.true ∙ ap (λ (m : Line). m ∷ drop (i + 1) lines) (sym c.line-item.is) in
    written_more c.loop-line.text.items c.put_any.new.text.items (line_of l) (map line_of (drop (i + 1) lines))
    (bytes_of (map line_of lines)) c.in_ok-put_any.ensures
    (ap (λ (ls : List Line). c.loop-line.text.items ++ bytes_of (map line_of ls)) (sym next) ∙ c.loop-line.invariant)
