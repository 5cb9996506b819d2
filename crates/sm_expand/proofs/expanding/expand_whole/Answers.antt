-- Too many branching nodes are found first, over the table as it was.
use Rattle.sm_expand.proofs.Imports.{◌≡◌, Ok, sym, ◌∙◌, subst, IfOk-weaker, IfErr-weaker, Copy, sorted_outputs, trees_in, sorts_in, branches, obligations, forms_in, state_in, PlanFault, numbered_plan, plan_in, dues_in, FaultTells}
use Rattle.sm_syntax.specs.trees.Copies.{of_copy}
use Rattle.sm_syntax.specs.trees.Programs.{declared_of, outputs_of}
use Rattle.sm_syntax.specs.trees.Views.{code_of}
use Rattle.sm_plan.specs.Plans as plain
use Rattle.sm_expand.specs.declared.due.Obligations.{Obligations}
use Rattle.sm_expand.proofs.PlansWiden.{plan_stays, plan_ready}
use Rattle.sm_expand.proofs.WholeLemmas.{too_deep, at_start}
use Rattle.sm_expand.proofs.expanding.expand_whole.Goals as goal

pub returns-then-is_deep-clause-err : goal.returns-then-is_deep-clause-err
returns-then-is_deep-clause-err c = λ t has.
    let sorts = sorts_in c.args.table.now in
    let trees = trees_in c.args.table.now in
    too_deep t (plan_in sorts trees c.args.plan.now) (sym (c.is_deep.ensures sorts trees) ∙ c.if-is_deep.true)

pub expand_at-requires-clause-plan : goal.expand_at-requires-clause-plan
expand_at-requires-clause-plan c =
    plan_ready c.args.table.now c.start_state.new.table c.in_ok-state.ensures.widens (numbered_plan c.args.plan.now) c.requires.plan

pub returns-clause-ok : goal.returns-clause-ok
returns-clause-ok c = λ t has.
    let v = c.args.table.now in
    let w = c.start_state.new.table in
    let p = plan_in (sorts_in v) (trees_in v) c.args.plan.now in
    let q = plan_in (sorts_in w) (trees_in w) c.args.plan.now in
    let st = state_in (sorts_in w) (trees_in w) (forms_in (sorts_in w) (trees_in w) c.in_ok-state.facts.list.items) c.in_ok-state.state in
    let whole : obligations t p ≡ plain.expand 0 st q =
    at_start t _ (sorted_outputs (declared_of c.args.decls.now) (outputs_of c.args.outputs.now))
    (λ (copy : Copy). code_of (of_copy c.args.programs.now copy)) p q st has
    (sym (c.is_deep.ensures (sorts_in v) (trees_in v)) ∙ c.if-is_deep.false) c.in_ok-state.ensures.start
    (plan_stays v w c.in_ok-state.ensures.widens (numbered_plan c.args.plan.now) c.requires.plan) in
    let last = c.expand_at.new.table in
    IfOk-weaker c.expand_at.result (λ (o : Obligations). plain.expand 0 st q ≡ Ok (dues_in (sorts_in last) (trees_in last) o.list.items))
    (λ (o : Obligations). obligations t p ≡ Ok (dues_in (sorts_in last) (trees_in last) o.list.items)) (λ o e. whole
    ∙ e) c.expand_at.ensures.ok

pub returns-clause-err : goal.returns-clause-err
returns-clause-err c = λ t has.
    let v = c.args.table.now in
    let w = c.start_state.new.table in
    let p = plan_in (sorts_in v) (trees_in v) c.args.plan.now in
    let q = plan_in (sorts_in w) (trees_in w) c.args.plan.now in
    let st = state_in (sorts_in w) (trees_in w) (forms_in (sorts_in w) (trees_in w) c.in_ok-state.facts.list.items) c.in_ok-state.state in
    let whole : obligations t p ≡ plain.expand 0 st q =
    at_start t _ (sorted_outputs (declared_of c.args.decls.now) (outputs_of c.args.outputs.now))
    (λ (copy : Copy). code_of (of_copy c.args.programs.now copy)) p q st has
    (sym (c.is_deep.ensures (sorts_in v) (trees_in v)) ∙ c.if-is_deep.false) c.in_ok-state.ensures.start
    (plan_stays v w c.in_ok-state.ensures.widens (numbered_plan c.args.plan.now) c.requires.plan) in
    IfErr-weaker c.expand_at.result (λ (e : PlanFault). FaultTells e (plain.expand 0 st q))
    (λ (e : PlanFault). FaultTells e (obligations t p))
    (λ e told. subst (FaultTells e) (sym whole) told) c.expand_at.ensures.err
