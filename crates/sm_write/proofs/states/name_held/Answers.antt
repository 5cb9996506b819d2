-- One name more.
use Rattle.sm_write.proofs.Imports.{length, slice_get-get_or, copy_named, trees_in, value_of}
use Rattle.sm_term.proofs.TermsLemmas.{part_before}
use Rattle.sm_write.proofs.HeldLemmas.{held_more}
use Rattle.sm_write.proofs.states.name_held.Goals as goal

pub name_one-requires : goal.name_one-requires
name_one-requires c =
    let terms = c.args.terms.now in
    let x = c.loop-x.x in
    part_before (length (trees_in c.args.table.now)) terms x _ c.requires (slice_get-get_or terms x (record { 0 = 0 }) c.loop-x-test.true)

pub loop-x-preserved : goal.loop-x-preserved
loop-x-preserved c =
    let v = c.args.table.now in
    let terms = c.args.terms.now in
    let x = c.loop-x.x in
    let at = slice_get-get_or terms x (record { 0 = 0 }) c.loop-x-test.true in
    held_more v (value_of c.args.w.now) (value_of c.loop-x.w) (value_of c.name_one.new.w) (copy_named c.args.copy) terms x _
    c.loop-x.invariant at (part_before (length (trees_in v)) terms x _ c.requires at) c.in_ok-name_one.ensures
