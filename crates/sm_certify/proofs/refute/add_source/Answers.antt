use Rattle.sm_certify.proofs.Imports.{sym, ◌∙◌, mark_at}
use Rattle.sm_certify.proofs.BranchLeadsLemmas.{source_step, skip_step}
use Rattle.sm_certify.proofs.refute.add_source.Goals as goal

pub returns : goal.returns
returns c =
    λ rest elims bad d.
    let v = c.args.table.now in
    let draft = c.args.draft.now in
    let after = c.add_lines_of.new.draft in
    source_step v c.args.facts.now (mark_at c.args.marks.now.list.items) c.requires.apart c.requires.places c.requires.within
    c.args.classes.now c.requires.whole c.requires.classes draft.lines.items after.lines.items draft.numbers.items after.numbers.items
    c.args.source rest elims bad d c.in_ok-add_lines_of.ensures

pub returns-then-not-is_next_marked : goal.returns-then-not-is_next_marked
returns-then-not-is_next_marked c =
    λ rest elims bad d.
    let v = c.args.table.now in
    let mark = mark_at c.args.marks.now.list.items in
    let draft = c.args.draft.now in
    let after = c.skip.new.draft in
    skip_step v c.args.facts.now mark draft.lines.items after.lines.items
    draft.numbers.items after.numbers.items c.args.source rest elims bad d
    (sym c.is_next_marked.ensures ∙ c.if-not-is_next_marked.true) (c.in_ok-skip.ensures.lines, c.in_ok-skip.ensures.number)
