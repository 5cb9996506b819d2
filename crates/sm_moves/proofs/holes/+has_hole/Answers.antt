-- A block has a hole where one of its statements has.
use Rattle.sm_moves.proofs.Imports.{refl, sym, ◌∙◌, code_of, has_hole}
use Rattle.sm_moves.proofs.WalksLemmas.{hole-append, found_here, not_here, nowhere, whole_block}
use Rattle.sm_moves.proofs.holes.+has_hole.Goals as goal

pub has_hole-loop-s-init : goal.has_hole-loop-s-init
has_hole-loop-s-init t c = whole_block has_hole c.deref-s-items.result.now c.args.block.now c.deref-s-items.ensures.value

pub has_hole-loop-s-preserved : goal.has_hole-loop-s-preserved
has_hole-loop-s-preserved t c =
    not_here has_hole hole-append refl c.deref-s-items.result.now c.loop-s.s-index (has_hole (code_of c.args.block.now)) c.loop-s.invariant
    c.s-item.result c.loop-s-test.true c.s-item.is (sym c.is_open.ensures ∙ c.if-is_open.false)

pub has_hole-returns-then-is_open : goal.has_hole-returns-then-is_open
has_hole-returns-then-is_open t c =
    found_here has_hole hole-append refl c.deref-s-items.result.now c.loop-s.s-index (has_hole (code_of c.args.block.now))
    c.loop-s.invariant
    c.s-item.result c.loop-s-test.true c.s-item.is (sym c.is_open.ensures ∙ c.if-is_open.true)

pub has_hole-returns : goal.has_hole-returns
has_hole-returns t c =
    nowhere has_hole hole-append refl c.deref-s-items.result.now c.loop-s.s-index (has_hole (code_of c.args.block.now)) c.loop-s.invariant
    c.loop-s-test.false
