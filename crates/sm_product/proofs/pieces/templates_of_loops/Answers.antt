-- What is left of all copies is their pieces.
use Rattle.sm_product.proofs.Imports.{◌≡◌, sym, subst, Copy, Code, Parts, IsWellSorted, of_copy, trees_in, sorts_in, set_of, Formulas, rest_code, forms_in, piece_of, IsSiteOf, loop_templates}
use Rattle.std.proofs.Common.{IfOk}
use Rattle.sm_product.proofs.BlocksDrawn.{all_these}
use Rattle.sm_product.proofs.pieces.templates_of_loops.Goals as goal

pub loop_templates-requires-clause-sorted : goal.loop_templates-requires-clause-sorted
loop_templates-requires-clause-sorted c =
    let left : Copy → Code = λ (d : Copy). rest_code (of_copy c.in_ok-code.code d) in
    let rests : left ≡ piece_of c.args.pieces.now = all_these left (piece_of c.args.pieces.now) c.in_ok-code.ensures in
    subst (λ (code : Copy → Code). (d : Copy) → IsWellSorted (sorts_in c.args.table.now) (code d)) (sym rests) c.requires.sorted

pub returns-clause-made : goal.returns-clause-made
returns-clause-made c = λ (t : Parts) (site : IsSiteOf t c.args.site.now).
    let w = c.loop_templates.new.table in
    let left : Copy → Code = λ (d : Copy). rest_code (of_copy c.in_ok-code.code d) in
    let rests : left ≡ piece_of c.args.pieces.now = all_these left (piece_of c.args.pieces.now) c.in_ok-code.ensures in
    subst (λ (code : Copy → Code). IfOk c.loop_templates.result (λ (fs : Formulas).
    forms_in (sorts_in w) (trees_in w) fs.list.items ≡ loop_templates t (set_of c.args.set) code))
    rests (c.loop_templates.ensures.made t site)
