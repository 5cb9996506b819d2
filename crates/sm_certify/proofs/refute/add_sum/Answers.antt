use Rattle.sm_certify.proofs.Imports.{sym, ◌∙◌, mark_at}
use Rattle.sm_certify.proofs.BranchLeadsLemmas.{sum_step, skip_sum_step}
use Rattle.sm_certify.proofs.refute.add_sum.Goals as goal

pub returns-then-not-is_next_marked : goal.returns-then-not-is_next_marked
returns-then-not-is_next_marked c =
    λ rest bad d.
    let draft = c.args.draft.now in
    let after = c.skip.new.draft in
    skip_sum_step c.args.table.now c.args.facts.now (mark_at c.args.marks.now.list.items) draft.lines.items after.lines.items
    draft.numbers.items after.numbers.items c.args.made rest bad d
    (sym c.is_next_marked.ensures ∙ c.if-not-is_next_marked.true) (c.in_ok-skip.ensures.lines, c.in_ok-skip.ensures.number)

pub returns : goal.returns
returns c =
    λ rest bad d.
    let draft = c.args.draft.now in
    let after = c.add_form.new.draft in
    sum_step c.args.table.now c.args.facts.now (mark_at c.args.marks.now.list.items) c.requires.apart draft.lines.items
    after.lines.items draft.numbers.items after.numbers.items c.args.made rest bad c.number_at-f.result c.number_at-g.result d
    (sym c.is_next_marked.ensures ∙ c.if-not-is_next_marked.false) c.number_at-f.ensures c.number_at-g.ensures
    (c.in_ok-add_form.ensures.line, c.in_ok-add_form.ensures.number)
