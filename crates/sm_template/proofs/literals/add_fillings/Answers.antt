-- One filling more.
use Rattle.sm_template.proofs.Imports.{◌∙◌, ℤ, List, take, sym, ap, take_all, Filling, code_of, with_literals, literals_used, literals_filled}
use Rattle.sm_template.proofs.LiteralsLemmas.{with_literals-append, filled_by, filled_more}
use Rattle.sm_template.proofs.literals.add_fillings.Goals as goal

pub loop-f-preserved : goal.loop-f-preserved
loop-f-preserved c =
    let fs = c.deref-f-items.result.now in
    let i = c.loop-f.f-index in
    let start = c.args.list.now.items in
    let here = literals_used (code_of c.f-item.result.block) in
    c.in_ok-add_block.ensures
    ∙ ap (λ (seen : List ℤ). with_literals seen here) c.loop-f.invariant
    ∙ sym (with_literals-append start (literals_filled (filled_by (take i fs))) here)
    ∙ ap (with_literals start) (sym (filled_more fs i c.f-item.result c.loop-f-test.true c.f-item.is))

pub returns : goal.returns
returns c =
    let start = c.args.list.now.items in
    c.loop-f.invariant
    ∙ ap (λ (fs : List Filling). with_literals start (literals_filled (filled_by fs)))
    (take_all c.loop-f.f-index c.deref-f-items.result.now c.loop-f-test.false ∙ c.deref-f-items.ensures.value)
