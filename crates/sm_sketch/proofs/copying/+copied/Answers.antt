-- A block of the copies.
use Rattle.sm_sketch.proofs.Imports.{ap, ◌∙◌, numbered_sketch}
use Rattle.sm_sketch.proofs.SketchEnds.{same_block}
use Rattle.sm_sketch.proofs.copying.+copied.Goals as goal

pub copied_end-returns-in_ok-after-in-Block : goal.copied_end-returns-in_ok-after-in-Block
copied_end-returns-in_ok-after-in-Block t c =
    let l = c.in-Block in
    same_block c.args.last.now l.k0 l.k1 l.k2 l.k3 c.in_ok-templates-in-Block.templates l.templates c.in_ok-inner-in-Block.inner
    c.in_ok-after-in-Block.after l.inner l.after l.is c.in_ok-templates-in-Block.ensures.cases
    (c.in_ok-inner-in-Block.ensures ∙ ap numbered_sketch c.deref-in-Block.ensures)
    (c.in_ok-after-in-Block.ensures ∙ ap numbered_sketch c.deref-in-Block-2.ensures)
