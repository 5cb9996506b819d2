-- What is left of the copies is their blocks.
use Rattle.sm_product.proofs.Imports.{◌≡◌, subst, fun_ext, Copy, Code, of_copy, trees_in, sorts_in, parts_of, Formulas, rest_code, forms_in, block_codes, block_templates}
use Rattle.std.specs.Prelude.{IfOk}
use Rattle.sm_product.proofs.blocks.templates_of_blocks.Goals as goal

pub returns-clause-made : goal.returns-clause-made
returns-clause-made c =
    let w = c.block_templates.new.table in
    let t = parts_of c.args.cx.now.task.now in
    let left : (λ (d : Copy). rest_code (of_copy c.in_ok-code.code d)) ≡ block_codes c.args.blocks.now = fun_ext c.in_ok-code.ensures in
    subst (λ (f : Copy → Code). IfOk c.block_templates.result (λ (fs : Formulas).
    forms_in (sorts_in w) (trees_in w) fs.list.items ≡ block_templates t f))
    left (c.block_templates.ensures.made t c.requires.context.site)
