-- A plan is deeper by one than the deepest plan below its last node.
use Rattle.sm_expand.proofs.Imports.{◌-◌, nat_lt, List, map, sym, ap, ◌∙◌, branches, most_branches, plans_over, plans_before, Over, numbered_plan, plan_in, Plan, out-Plans}
use Rattle.sm_expand.proofs.DepthLemmas.{none_deep, none_allowed, first_deep, second_deep, fork_depth, loop_depth, block_depth, dead_depth, end_depth, next_flat, one_deep}
use Rattle.sm_expand.proofs.depth.+depth.Goals as goal

pub are_deep-returns-then-is_deep : goal.are_deep-returns-then-is_deep
are_deep-returns-then-is_deep t c = λ sorts trees.
    one_deep sorts trees c.args.allowed c.args.plans.now c.loop-plan.plan-index c.plan-item.result c.loop-plan-test.true c.plan-item.is
    (sym (c.is_deep.ensures sorts trees) ∙ c.if-is_deep.true)

pub are_deep-loop-plan-preserved : goal.are_deep-loop-plan-preserved
are_deep-loop-plan-preserved t c = λ sorts trees.
    next_flat sorts trees c.args.allowed c.args.plans.now c.loop-plan.plan-index c.plan-item.result c.loop-plan-test.true c.plan-item.is
    (c.loop-plan.invariant sorts trees) (sym (c.is_deep.ensures sorts trees) ∙ c.if-is_deep.false)

pub is_deep-returns-then-allowed-eq0 : goal.is_deep-returns-then-allowed-eq0
is_deep-returns-then-allowed-eq0 t c = λ sorts trees.
    let l = c.in-Fork in
    none_allowed c.args.allowed (branches (plan_in sorts trees c.args.plan.now)) (branches (plan_in sorts trees l.yes.value))
    (branches (plan_in sorts trees l.no.value)) c.if-allowed-eq0.true (fork_depth sorts trees c.args.plan.now l.copy l.yes l.no l.is)

pub is_deep-returns-then-is_deep : goal.is_deep-returns-then-is_deep
is_deep-returns-then-is_deep t c = λ sorts trees.
    let l = c.in-Fork in
    first_deep c.args.allowed (branches (plan_in sorts trees c.args.plan.now)) (branches (plan_in sorts trees l.yes.value))
    (branches (plan_in sorts trees l.no.value)) c.if-allowed-eq0.false (fork_depth sorts trees c.args.plan.now l.copy l.yes l.no l.is)
    (ap (λ (p : Plan). nat_lt (c.args.allowed - 1) (branches (plan_in sorts trees p))) (sym c.deref.ensures)
    ∙ sym (c.is_deep.ensures sorts trees) ∙ c.if-is_deep.true)

pub is_deep-returns-else-is_deep : goal.is_deep-returns-else-is_deep
is_deep-returns-else-is_deep t c = λ sorts trees.
    let l = c.in-Fork in
    c.is_deep-in-Fork.ensures sorts trees
    ∙ ap (λ (p : Plan). nat_lt (c.args.allowed - 1) (branches (plan_in sorts trees p))) c.deref-in-Fork.ensures
    ∙ second_deep c.args.allowed (branches (plan_in sorts trees c.args.plan.now)) (branches (plan_in sorts trees l.yes.value))
    (branches (plan_in sorts trees l.no.value)) c.if-allowed-eq0.false (fork_depth sorts trees c.args.plan.now l.copy l.yes l.no l.is)
    (ap (λ (p : Plan). nat_lt (c.args.allowed - 1) (branches (plan_in sorts trees p))) (sym c.deref.ensures)
    ∙ sym (c.is_deep.ensures sorts trees) ∙ c.if-is_deep.false)

pub is_deep-returns-then-allowed-eq0-2 : goal.is_deep-returns-then-allowed-eq0-2
is_deep-returns-then-allowed-eq0-2 t c = λ sorts trees.
    let l = c.in-Loop in
    none_allowed c.args.allowed (branches (plan_in sorts trees c.args.plan.now))
    (most_branches (plans_over sorts trees (plans_before (map numbered_plan (out-Plans l.turns).list.items) Over)))
    (branches (plan_in sorts trees l.after.value)) c.if-allowed-eq0-2.true
    (loop_depth sorts trees c.args.plan.now l.set l.keep l.turns l.after l.is)

pub is_deep-returns-then-are_deep : goal.is_deep-returns-then-are_deep
is_deep-returns-then-are_deep t c = λ sorts trees.
    let l = c.in-Loop in
    first_deep c.args.allowed (branches (plan_in sorts trees c.args.plan.now))
    (most_branches (plans_over sorts trees (plans_before (map numbered_plan (out-Plans l.turns).list.items) Over)))
    (branches (plan_in sorts trees l.after.value)) c.if-allowed-eq0-2.false
    (loop_depth sorts trees c.args.plan.now l.set l.keep l.turns l.after l.is)
    (ap (λ (ps : List Plan). nat_lt (c.args.allowed - 1)
    (most_branches (plans_over sorts trees (plans_before (map numbered_plan ps) Over))))
    (sym c.as_slice.ensures.value) ∙ sym (c.are_deep.ensures sorts trees) ∙ c.if-are_deep.true)

pub is_deep-returns-else-are_deep : goal.is_deep-returns-else-are_deep
is_deep-returns-else-are_deep t c = λ sorts trees.
    let l = c.in-Loop in
    c.is_deep-in-Loop.ensures sorts trees
    ∙ ap (λ (p : Plan). nat_lt (c.args.allowed - 1) (branches (plan_in sorts trees p))) c.deref-in-Loop.ensures
    ∙ second_deep c.args.allowed (branches (plan_in sorts trees c.args.plan.now))
    (most_branches (plans_over sorts trees (plans_before (map numbered_plan (out-Plans l.turns).list.items) Over)))
    (branches (plan_in sorts trees l.after.value)) c.if-allowed-eq0-2.false
    (loop_depth sorts trees c.args.plan.now l.set l.keep l.turns l.after l.is)
    (ap (λ (ps : List Plan). nat_lt (c.args.allowed - 1)
    (most_branches (plans_over sorts trees (plans_before (map numbered_plan ps) Over))))
    (sym c.as_slice.ensures.value) ∙ sym (c.are_deep.ensures sorts trees) ∙ c.if-are_deep.false)

pub is_deep-returns-then-allowed-eq0-3 : goal.is_deep-returns-then-allowed-eq0-3
is_deep-returns-then-allowed-eq0-3 t c = λ sorts trees.
    let l = c.in-Block in
    none_allowed c.args.allowed (branches (plan_in sorts trees c.args.plan.now)) (branches (plan_in sorts trees l.inner.value))
    (branches (plan_in sorts trees l.after.value)) c.if-allowed-eq0-3.true
    (block_depth sorts trees c.args.plan.now l.k0 l.k1 l.k2 l.k3 l.keep l.inner l.after l.is)

pub is_deep-returns-then-is_deep-2 : goal.is_deep-returns-then-is_deep-2
is_deep-returns-then-is_deep-2 t c = λ sorts trees.
    let l = c.in-Block in
    first_deep c.args.allowed (branches (plan_in sorts trees c.args.plan.now)) (branches (plan_in sorts trees l.inner.value))
    (branches (plan_in sorts trees l.after.value)) c.if-allowed-eq0-3.false
    (block_depth sorts trees c.args.plan.now l.k0 l.k1 l.k2 l.k3 l.keep l.inner l.after l.is)
    (ap (λ (p : Plan). nat_lt (c.args.allowed - 1) (branches (plan_in sorts trees p))) (sym c.deref-in-Block.ensures)
    ∙ sym (c.is_deep-in-Block.ensures sorts trees) ∙ c.if-is_deep-2.true)

pub is_deep-returns-else-is_deep-2 : goal.is_deep-returns-else-is_deep-2
is_deep-returns-else-is_deep-2 t c = λ sorts trees.
    let l = c.in-Block in
    c.is_deep-in-Block-2.ensures sorts trees
    ∙ ap (λ (p : Plan). nat_lt (c.args.allowed - 1) (branches (plan_in sorts trees p))) c.deref-in-Block-2.ensures
    ∙ second_deep c.args.allowed (branches (plan_in sorts trees c.args.plan.now)) (branches (plan_in sorts trees l.inner.value))
    (branches (plan_in sorts trees l.after.value)) c.if-allowed-eq0-3.false
    (block_depth sorts trees c.args.plan.now l.k0 l.k1 l.k2 l.k3 l.keep l.inner l.after l.is)
    (ap (λ (p : Plan). nat_lt (c.args.allowed - 1) (branches (plan_in sorts trees p))) (sym c.deref-in-Block.ensures)
    ∙ sym (c.is_deep-in-Block.ensures sorts trees) ∙ c.if-is_deep-2.false)

pub is_deep-returns-in-Dead : goal.is_deep-returns-in-Dead
is_deep-returns-in-Dead t c = λ sorts trees.
    none_deep c.args.allowed (branches (plan_in sorts trees c.args.plan.now)) (dead_depth sorts trees c.args.plan.now c.in-Dead.is)

pub is_deep-returns-in-End : goal.is_deep-returns-in-End
is_deep-returns-in-End t c = λ sorts trees.
    none_deep c.args.allowed (branches (plan_in sorts trees c.args.plan.now)) (end_depth sorts trees c.args.plan.now c.in-End.is)
