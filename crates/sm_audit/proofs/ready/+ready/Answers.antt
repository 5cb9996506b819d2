-- A plan is ready where what it keeps is, and the plans below its last node are.
use Rattle.sm_audit.proofs.Imports.{List, sym, subst, OnTrue_at, OnTrue_from, drop_all, trees_in, sorts_in, IsPlanReady, numbered_plan}
use Rattle.sm_expand.specs.declared.plan.Plan.{Plan}
use Rattle.sm_audit.proofs.PlanReadyLemmas.{AreListReady, plan_before, fork_ready, loop_ready, block_ready, dead_ready, end_ready}
use Rattle.sm_audit.proofs.ready.+ready.Goals as goal

pub are_plans_ready-loop-plan-preserved : goal.are_plans_ready-loop-plan-preserved
are_plans_ready-loop-plan-preserved t c = λ rest.
    let sorts = sorts_in c.args.table.now in
    let trees = trees_in c.args.table.now in
    c.loop-plan.invariant
    (plan_before sorts trees c.args.plans.now c.loop-plan.plan-index c.plan-item.result c.loop-plan-test.true
    (subst (λ (p : Plan). IsPlanReady sorts trees (numbered_plan p)) c.plan-item.is
    (OnTrue_at c.if-not-is_plan_ready.false c.is_plan_ready.ensures)) rest)

pub are_plans_ready-returns : goal.are_plans_ready-returns
are_plans_ready-returns t c =
    c.loop-plan.invariant
    (subst (AreListReady (sorts_in c.args.table.now) (trees_in c.args.table.now))
    (sym (drop_all c.loop-plan.plan-index c.args.plans.now c.loop-plan-test.false)) tt)

pub is_plan_ready-returns-else-not-is_plan_ready : goal.is_plan_ready-returns-else-not-is_plan_ready
is_plan_ready-returns-else-not-is_plan_ready t c =
    let sorts = sorts_in c.args.table.now in
    let trees = trees_in c.args.table.now in
    let ready = λ (p : Plan). IsPlanReady sorts trees (numbered_plan p) in
    let l = c.in-Fork in
    let one = subst ready c.deref.ensures (OnTrue_at c.if-not-is_plan_ready.false c.is_plan_ready.ensures) in
    OnTrue_from _ _
    (λ good. fork_ready sorts trees c.args.plan.now l.copy l.yes l.no l.is one
    (subst ready c.deref-in-Fork.ensures (OnTrue_at good c.is_plan_ready-in-Fork.ensures)))

pub is_plan_ready-returns-else-not-are_plans_ready : goal.is_plan_ready-returns-else-not-are_plans_ready
is_plan_ready-returns-else-not-are_plans_ready t c =
    let sorts = sorts_in c.args.table.now in
    let trees = trees_in c.args.table.now in
    let ready = λ (p : Plan). IsPlanReady sorts trees (numbered_plan p) in
    let l = c.in-Loop in
    let turns = subst (AreListReady sorts trees) c.as_slice.ensures.value (OnTrue_at c.if-not-are_plans_ready.false c.are_plans_ready.ensures) in
    OnTrue_from _ _
    (λ good. loop_ready sorts trees c.args.plan.now l.set l.keep l.turns l.after l.is
    (OnTrue_at c.if-not-is_form_ready.false c.is_form_ready.ensures.within)
    (OnTrue_at c.if-not-is_form_ready.false c.is_form_ready.ensures.sorted) turns
    (subst ready c.deref-in-Loop.ensures (OnTrue_at good c.is_plan_ready-in-Loop.ensures)))

pub is_plan_ready-returns-else-not-is_plan_ready-2 : goal.is_plan_ready-returns-else-not-is_plan_ready-2
is_plan_ready-returns-else-not-is_plan_ready-2 t c =
    let sorts = sorts_in c.args.table.now in
    let trees = trees_in c.args.table.now in
    let ready = λ (p : Plan). IsPlanReady sorts trees (numbered_plan p) in
    let l = c.in-Block in
    let one = subst ready c.deref-in-Block.ensures (OnTrue_at c.if-not-is_plan_ready-2.false c.is_plan_ready-in-Block.ensures) in
    OnTrue_from _ _
    (λ good. block_ready sorts trees c.args.plan.now l.k0 l.k1 l.k2 l.k3 l.keep l.inner l.after l.is
    (OnTrue_at c.if-not-is_form_ready-2.false c.is_form_ready-in-Block.ensures.within)
    (OnTrue_at c.if-not-is_form_ready-2.false c.is_form_ready-in-Block.ensures.sorted) one
    (subst ready c.deref-in-Block-2.ensures (OnTrue_at good c.is_plan_ready-in-Block-2.ensures)))

pub is_plan_ready-returns-in-Dead : goal.is_plan_ready-returns-in-Dead
is_plan_ready-returns-in-Dead t c = dead_ready (sorts_in c.args.table.now) (trees_in c.args.table.now) c.args.plan.now c.in-Dead.is

pub is_plan_ready-returns-in-End : goal.is_plan_ready-returns-in-End
is_plan_ready-returns-in-End t c = end_ready (sorts_in c.args.table.now) (trees_in c.args.table.now) c.args.plan.now c.in-End.is
