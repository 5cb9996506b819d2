-- One statement more.
use Rattle.sm_template.proofs.Imports.{◌+◌, ℤ, List, map, drop, sym, ap, ◌∙◌, End, sequence, statement_of, with_literals, literals_used}
use Rattle.sm_template.proofs.LiteralsLemmas.{with_literals-append, literals_used-drop, literals_used-end}
use Rattle.sm_template.proofs.literals.+add_block.Goals as goal

pub add_block-loop-s-preserved : goal.add_block-loop-s-preserved
add_block-loop-s-preserved t c =
    let l = c.deref-s-items.result.now in
    let old = c.loop-s.list.items in
    let here = literals_used (statement_of c.s-item.result End) in
    let rest = literals_used (sequence (map statement_of (drop (c.loop-s.s-index + 1) l)) End) in
    c.loop-s.invariant
    ∙ ap (with_literals old) (literals_used-drop l c.loop-s.s-index c.s-item.result c.loop-s-test.true c.s-item.is)
    ∙ with_literals-append old here rest
    ∙ ap (λ (seen : List ℤ). with_literals seen rest) (sym c.in_ok-add_stmt.ensures)

pub add_block-returns : goal.add_block-returns
add_block-returns t c =
    sym
    (c.loop-s.invariant
    ∙ ap (with_literals c.loop-s.list.items) (literals_used-end c.deref-s-items.result.now c.loop-s.s-index c.loop-s-test.false))
