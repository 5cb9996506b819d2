-- Each block's statements are counted.
use Rattle.sm_moves.proofs.PiecesLemmas.{counts_are}
use Rattle.sm_product.proofs.blocks.counts.Goals as goal

pub returns : goal.returns
returns c =
    counts_are c.args.blocks.now c.len.result c.len-2.result c.len-3.result c.len-4.result c.len.ensures c.len-2.ensures c.len-3.ensures
    c.len-4.ensures
