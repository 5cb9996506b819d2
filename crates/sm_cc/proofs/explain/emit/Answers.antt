use Rattle.sm_cc.proofs.Imports.{length, refl, sym, subst, false, Some, ap, ◌∙◌, arith, slice_get_read, slice_get-get_or, StepsBuilder, placed_of, numbers_in}
use Rattle.sm_cc.specs.Steps.{AreBelow}
use Rattle.sm_cc.proofs.MarksLemmas.{entry_below}
use Rattle.sm_cc.proofs.ExplainLemmas.{draft_marked}
use Rattle.sm_cc.proofs.explain.emit.Goals as goal

pub number_entry-requires-clause-below : goal.number_entry-requires-clause-below
number_entry-requires-clause-below c =
    let e = c.index.result.now in
    subst (λ l. AreBelow l (numbers_in e.why)) (sym c.requires.draft.count)
    (entry_below c.args.c.now c.args.m e c.requires.sound c.requires.there c.index.ensures)

pub returns : goal.returns
returns c =
    let old = c.args.c.now in
    let e = c.index.result.now in
    let marks = c.args.marks.now in
    let mid = c.number_entry.new.draft in
    let after : StepsBuilder = record mid { numbers = c.push-2.new.self } in
    let here = slice_get_read old.entries.items (length old.entries.items) c.args.m e refl c.requires.there c.index.ensures in
    let marked = slice_get-get_or marks c.args.m false (omega (arith, c.requires.there, c.requires.count)) ∙ ap Some
    c.if-not-marks-m.false in
    draft_marked (placed_of old) old.entries.items marks c.args.start c.args.m c.args.draft.now mid after c.in_ok-number.number e
    c.requires.draft here (c.requires.sound.follow c.args.m e here) c.requires.closed marked c.in_ok-number.ensures refl
    c.in_ok-push-2.ensures.items
