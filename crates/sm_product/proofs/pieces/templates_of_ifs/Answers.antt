-- What is left of the copies of a set is their pieces.
use Rattle.sm_product.proofs.Imports.{◌≡◌, subst, Copy, Code, Parts, of_copy, trees_in, sorts_in, set_of, Formulas, rest_code, forms_in, only_in, piece_of, IsSiteOf, block_templates}
use Rattle.std.proofs.Common.{IfOk}
use Rattle.sm_product.proofs.BlocksDrawn.{only_these}
use Rattle.sm_product.proofs.pieces.templates_of_ifs.Goals as goal

pub returns-clause-made : goal.returns-clause-made
returns-clause-made c = λ (t : Parts) (site : IsSiteOf t c.args.site.now).
    let w = c.block_templates.new.table in
    let set = set_of c.args.set in
    let left : Copy → Code = λ (d : Copy). rest_code (of_copy c.in_ok-code.code d) in
    let rests : left ≡ only_in set (piece_of c.args.pieces.now) =
    only_these set left (piece_of c.args.pieces.now) c.in_ok-code.ensures in
    subst (λ (code : Copy → Code). IfOk c.block_templates.result (λ (fs : Formulas).
    forms_in (sorts_in w) (trees_in w) fs.list.items ≡ block_templates t code))
    rests (c.block_templates.ensures.made t site)
