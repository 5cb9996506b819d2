-- The start of the task waits first, and no entry tells anything.
use Rattle.sm_audit.proofs.Imports.{◌≡◌, List, map, refl, sym, ap, ◌∙◌, subst, task_of, Sorts, trees_in, sorts_in, parts_of, nodes_of, State, start_state, forms_in, state_in, widens_twice, NumberedPlan, IsPlanReady, plan_over, numbered_plan, plan_in, plan_ready, plan_stays, plan_states, PlacedState}
use Rattle.sm_plan.specs.Plans.{Plan}
use Rattle.sm_audit.proofs.SinceLemmas.{since_none}
use Rattle.sm_audit.proofs.UnderwayLemmas.{starts_underway}
use Rattle.sm_audit.proofs.walking.walk.Goals as goal
use Rattle.sm_write.proofs.TaskStarts.{start_is}

pub note_nodes-requires : goal.note_nodes-requires
note_nodes-requires c =
    let v = c.args.table.now in
    let w = c.start_state.new.table in
    let plan = numbered_plan c.args.plan.now in
    record {
      state = c.in_ok-state.ensures.ready;
      plan =
          subst (IsPlanReady (sorts_in w) (trees_in w)) (sym c.start_of.ensures)
          (plan_ready v w c.in_ok-state.ensures.widens plan c.requires.plan);
    }

pub returns-clause-since : goal.returns-clause-since
returns-clause-since c =
    let v = c.args.table.now in
    let w = c.start_state.new.table in
    let task = c.args.task.now in
    let facts = forms_in (sorts_in w) (trees_in w) c.in_ok-state._facts.list.items in
    let first : PlacedState = record { state = c.in_ok-state.state; cursor = c.start_of.result } in
    let start : state_in (sorts_in w) (trees_in w) facts c.in_ok-state.state ≡ start_state (task_of (parts_of task)) =
    start_is task c.args.programs.now c.as_ref-assumed.result _ c.requires.filled c.as_ref-assumed.ensures.value c.in_ok-state.ensures.start in
    let plan : plan_in (sorts_in v) (trees_in v) c.args.plan.now ≡ plan_over (sorts_in w) (trees_in w) _ =
    sym (plan_stays v w c.in_ok-state.ensures.widens (numbered_plan c.args.plan.now) c.requires.plan)
    ∙ ap (plan_over (sorts_in w) (trees_in w)) (sym c.start_of.ensures) in
    let states = plan_states 0 (start_state (task_of (parts_of task))) (plan_in (sorts_in v) (trees_in v) c.args.plan.now) in
    c.spread.ensures states
    (c.in_ok-rows.ensures.states states
    (starts_underway w c.in_ok-since.since.items first facts states
    (since_none (sorts_in w) states (trees_in w) c.in_ok-since.since.items c.in_ok-since.ensures)
    (λ i. plan_states 0 (sym start i) (plan i))))

pub returns-clause-rows : goal.returns-clause-rows
returns-clause-rows c = λ sorts trees.
    c.in_ok-rows.ensures.rows sorts trees
    ∙ ap (λ (p : NumberedPlan). nodes_of (plan_over sorts trees p)) c.start_of.ensures

pub returns-clause-widens : goal.returns-clause-widens
returns-clause-widens c =
    widens_twice c.args.table.now c.start_state.new.table c.note_nodes.new.table c.in_ok-state.ensures.widens c.in_ok-rows.ensures.widens

pub returns-in_err-rows-clause-widens : goal.returns-in_err-rows-clause-widens
returns-in_err-rows-clause-widens c =
    widens_twice c.args.table.now c.start_state.new.table c.note_nodes.new.table c.in_ok-state.ensures.widens c.in_err-rows.ensures.widens
