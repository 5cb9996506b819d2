-- The plan has the obligations that were expanded.
use Rattle.sm_sided.proofs.Imports.{List, ap, ◌∙◌, sorts_in, trees_in, obligations, plan_in, dues_in, facts_before}
use Rattle.sm_expand.specs.declared.due.Due.{Due}
use Rattle.sm_sided.proofs.DuesCounted.{told_twice}
use Rattle.sm_sided.proofs.whole.count_facts.Goals as goal

pub returns-clause-count : goal.returns-clause-count
returns-clause-count c = λ t has dues e.
    let v = c.args.table.now in
    let w = c.expand.new.table in
    let p = plan_in (sorts_in v) (trees_in v) c.args.plan.now in
    c.first_count-count.ensures (sorts_in w) (trees_in w)
    ∙ ap (λ (ds : List Due). facts_before (dues_in (sorts_in w) (trees_in w) ds)) c.as_slice.ensures.value
    ∙ ap facts_before
    (told_twice (obligations t p) (dues_in (sorts_in w) (trees_in w) c.in-Ok.all.list.items) dues (c.in-Ok.ensures.ok t has) e)
