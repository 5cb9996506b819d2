-- A block is well sorted where each of its statements is.
use Rattle.std.proofs.lemmas.Bool.{OnTrue_at}
use Rattle.sm_eval.specs.StoredValues.{sorts_of}
use Rattle.sm_drawing.proofs.SortedBlocks.{whole_well, one_more_well, none_well}
use Rattle.sm_drawing.proofs.sorted.+sorted.Goals as goal

pub is_block_sorted-loop-t-init : goal.is_block_sorted-loop-t-init
is_block_sorted-loop-t-init t c =
    whole_well (sorts_of c.args.s.now) c.deref-t-items.result.now c.args.b.now c.deref-t-items.ensures.value

pub is_block_sorted-loop-t-preserved : goal.is_block_sorted-loop-t-preserved
is_block_sorted-loop-t-preserved t c = λ rest.
    c.loop-t.invariant (one_more_well (sorts_of c.args.s.now) c.deref-t-items.result.now c.loop-t.t-index c.t-item.result c.loop-t-test.true
    c.t-item.is (OnTrue_at c.if-not-is_statement_sorted.false c.is_statement_sorted.ensures) rest)

pub is_block_sorted-returns : goal.is_block_sorted-returns
is_block_sorted-returns t c =
    c.loop-t.invariant (none_well (sorts_of c.args.s.now) c.deref-t-items.result.now c.loop-t.t-index c.loop-t-test.false)
