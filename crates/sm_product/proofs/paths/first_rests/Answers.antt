-- The copy is what was copied, and then takes the first block.
use Rattle.sm_product.proofs.Imports.{◌≡◌, ap, ◌∙◌, fun_ext, Copy, Code, copy_named, codes_in, first_taken}
use Rattle.sm_product.proofs.paths.first_rests.Goals as goal

pub returns : goal.returns
returns c = λ (d : Copy).
    let copied : codes_in c.in_ok-first.first ≡ codes_in c.args.rests.now = fun_ext c.in_ok-first.ensures in
    c.in_ok-fork.ensures d ∙ ap (λ (code : Copy → Code). first_taken code (copy_named c.args.copy) d) copied
