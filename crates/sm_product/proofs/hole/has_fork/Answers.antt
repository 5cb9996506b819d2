-- A block has an if where one of its statements is one.
use Rattle.sm_product.proofs.Imports.{refl, sym, ◌∙◌, code_of, has_fork, fork-append, found_here, not_here, nowhere, whole_block}
use Rattle.sm_product.proofs.hole.has_fork.Goals as goal

pub loop-s-init : goal.loop-s-init
loop-s-init c = whole_block has_fork c.deref-s-items.result.now c.args.block.now c.deref-s-items.ensures.value

pub loop-s-preserved : goal.loop-s-preserved
loop-s-preserved c =
    not_here has_fork fork-append refl c.deref-s-items.result.now c.loop-s.s-index (has_fork (code_of c.args.block.now)) c.loop-s.invariant
    c.s-item.result c.loop-s-test.true c.s-item.is (sym c.is_fork.ensures ∙ c.if-is_fork.false)

pub returns-then-is_fork : goal.returns-then-is_fork
returns-then-is_fork c =
    found_here has_fork fork-append refl c.deref-s-items.result.now c.loop-s.s-index (has_fork (code_of c.args.block.now))
    c.loop-s.invariant
    c.s-item.result c.loop-s-test.true c.s-item.is (sym c.is_fork.ensures ∙ c.if-is_fork.true)

pub returns : goal.returns
returns c =
    nowhere has_fork fork-append refl c.deref-s-items.result.now c.loop-s.s-index (has_fork (code_of c.args.block.now)) c.loop-s.invariant
    c.loop-s-test.false
