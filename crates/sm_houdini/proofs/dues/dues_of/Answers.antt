use Rattle.sm_houdini.proofs.Imports.{◌≡◌, ap, ◌∙◌, subst, IfOk, task_of, trees_in, sorts_in, obligations, choice_in, kept_by, plan_with}
use Rattle.sm_text.specs.Tasks.{parts_of}
use Rattle.sm_plan.specs.Plans as plain
use Rattle.sm_expand.specs.Views.{dues_in}
use Rattle.sm_houdini.specs.Rounds as rounds
use Rattle.sm_houdini.proofs.dues.dues_of.Goals as goal

pub asked_by-requires-clause-ready : goal.asked_by-requires-clause-ready
asked_by-requires-clause-ready c =
    let v = c.args.table.now in c.in_ok-plan.ensures.ready (sorts_in v) (trees_in v) c.requires.knows.ready

pub returns-clause-dues : goal.returns-clause-dues
returns-clause-dues c =
    let v = c.args.table.now in
    let w = c.asked_by.new.table in
    let t = parts_of c.args.task.now in
    let made = c.in_ok-plan.ensures.made (sorts_in v) (trees_in v) c.requires.knows.ready
    ∙ ap (plan_with (kept_by (choice_in c.args.choice.now)) 0) c.requires.knows.sketch in
    subst (λ (p : plain.Plan). IfOk c.asked_by.result (λ o. dues_in (sorts_in w) (trees_in w) o.list.items ≡ rounds.dues_in (obligations (task_of t) p)))
    made c.asked_by.ensures.dues
