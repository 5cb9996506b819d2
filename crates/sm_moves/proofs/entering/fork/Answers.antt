-- The copy's code alone goes on.
use Rattle.sm_moves.proofs.Imports.{if◌then◌else◌, Code, Copy, copy_named, by_first_block, by_second_block}
use Rattle.sm_moves.specs.Rests.{codes_in}
use Rattle.sm_moves.proofs.CopiesLemmas.{forked_at}
use Rattle.sm_moves.proofs.entering.fork.Goals as goal
use Rattle.sm_syntax.proofs.EachCopy.{each_copy}

pub returns : goal.returns
returns c =
    let old = codes_in c.args.rests.now in
    let block : Copy → Code = λ (d : Copy). if c.args.is_first then by_first_block (old d) else by_second_block (old d) in
    forked_at (copy_named c.args.copy) c.bit-set.result c.bit-set.ensures old _ block
    (each_copy _ c.in_ok-enter_in.ensures c.in_ok-enter_in-2.ensures c.in_ok-enter_in-3.ensures c.in_ok-enter_in-4.ensures)
