use Rattle.sm_cc.proofs.Imports.{length, refl, arith, slice_get_read, numbers_in}
use Rattle.sm_cc.proofs.MarksLemmas.{below_more, entry_below, closed_marked}
use Rattle.sm_cc.proofs.marks.mark_entry.Goals as goal

pub mark_numbers-requires : goal.mark_numbers-requires
mark_numbers-requires c =
    let e = c.index.result.now in
    below_more c.args.m (length c.args.marks.now) (numbers_in e.why) (omega (arith, c.requires.there, c.requires.count))
    (entry_below c.args.c.now c.args.m e c.requires.sound c.requires.there c.index.ensures)

pub returns-clause-closed : goal.returns-clause-closed
returns-clause-closed c =
    let old = c.args.c.now in
    let e = c.index.result.now in
    closed_marked old.entries.items c.args.marks.now c.mark_numbers.new.marks c.args.m e c.requires.closed
    (slice_get_read old.entries.items (length old.entries.items) c.args.m e refl c.requires.there c.index.ensures)
    (entry_below old c.args.m e c.requires.sound c.requires.there c.index.ensures) c.mark_numbers.ensures
