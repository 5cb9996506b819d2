-- A copy of the set is asked for its block.
use Rattle.sm_product.proofs.Imports.{◌≡◌, Bool, not, ◌||◌, sym, ap, ◌∙◌, copy_named, code_of, same_code, block_codes}
use Rattle.std.proofs.lemmas.Bool.Decides.{same_from_decides}
use Rattle.sm_syntax.specs.declared.tree.Block.{Block}
use Rattle.sm_term.specs.SameCodeLaws.{same_code_is}
use Rattle.sm_product.proofs.hole.agrees.Goals as goal
use denote.Bor.{Bor}

pub returns-else-not-has : goal.returns-else-not-has
returns-else-not-has c =
    let code = code_of c.args.block.now in
    let other = code_of c.get.result.now.now in
    let same : c.same_block.result ≡ same_code code other = same_from_decides _ _ c.same_block.ensures (same_code_is code other) in
    same ∙ ap (λ (b : Bor Block). same_code code (code_of b.now)) c.get.ensures
    ∙ sym (ap (λ (x : Bool). not x || same_code code (block_codes c.args.blocks.now (copy_named c.args.copy)))
    (sym c.has.ensures ∙ c.if-not-has.false))
