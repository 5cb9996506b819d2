-- The blocks are compared with that of the least copy.
use Rattle.sm_product.proofs.Imports.{not, ◌||◌, sym, ap, ◌∙◌, Copy, Code, copy_named, code_of, same_code, each, has, set_of, block_codes}
use Rattle.sm_syntax.specs.declared.tree.Block.{Block}
use Rattle.sm_moves.proofs.SharedLemmas.{shared_first}
use Rattle.sm_product.proofs.hole.is_shared.Goals as goal
use denote.Bor.{Bor}

pub returns-in-Some : goal.returns-in-Some
returns-in-Some c =
    let set = set_of c.args.set in
    let code = block_codes c.args.blocks.now in
    let copy = copy_named c.in-Some.copy in
    c.all_agree.ensures
    ∙ ap (λ (k : Code). each (λ (d : Copy). not (has set d) || same_code k (code d))) (ap (λ (b : Bor Block). code_of b.now) c.get.ensures)
    ∙ shared_first set code copy (sym c.in-Some.ensures)
