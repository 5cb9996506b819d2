-- The start of the task waits first, and in the end nothing.
use Rattle.sm_write.proofs.Imports.{◌≡◌, [], ◌∷◌, sym, subst, trees_in, sorts_in, start_state, forms_in, state_in, widens_twice, subject_of, task_of, parts_of, IsPlanReady, plan_ready, PlacedState, IsUnderway, value_of}
use Rattle.sm_expand.specs.Views.{numbered_plan}
use Rattle.sm_write.proofs.StartsUnderway.{starts_underway}
use Rattle.sm_write.proofs.TaskStarts.{start_is}
use Rattle.sm_write.proofs.TreesStay.{trees_wider}
use Rattle.sm_write.proofs.writing.write_from_start.Goals as goal

pub write_nodes-requires-clause-state : goal.write_nodes-requires-clause-state
write_nodes-requires-clause-state c =
    let v = c.args.table.now in
    let w = c.start_state.new.table in
    let plan = numbered_plan c.args.plan.now in
    record {
      state = c.in_ok-state.ensures.ready;
      plan =
          subst (IsPlanReady (sorts_in w) (trees_in w)) (sym c.start_of.ensures)
          (plan_ready v w c.in_ok-state.ensures.widens plan c.requires.plan);
    }

pub write_nodes-requires-clause-trees : goal.write_nodes-requires-clause-trees
write_nodes-requires-clause-trees c =
    trees_wider c.args.table.now c.start_state.new.table c.in_ok-state.ensures.widens c.args.trees.now c.requires.trees

pub returns-clause-written : goal.returns-clause-written
returns-clause-written c fresh =
    let v = c.args.table.now in
    let w = c.start_state.new.table in
    let task = c.args.task.now in
    let t = parts_of task in
    let s = subject_of t in
    let facts = forms_in (sorts_in w) (trees_in w) c.in_ok-state._facts.list.items in
    let first : PlacedState = record { state = c.in_ok-state.state; cursor = c.start_of.result } in
    let start : state_in (sorts_in w) (trees_in w) facts c.in_ok-state.state ≡ start_state (task_of t) =
    start_is task c.args.programs.now c.as_ref.result _ c.requires.filled c.as_ref.ensures.value c.in_ok-state.ensures.start in
    let underway : IsUnderway s w (value_of c.args.w.now) (first ∷ []) c.args.trees.now =
    starts_underway t v w c.in_ok-state.ensures.widens (value_of c.args.w.now) first facts (numbered_plan c.args.plan.now)
    c.args.trees.now c.requires.declared c.requires.sorted start c.start_of.ensures c.requires.plan c.requires.trees
    c.requires.writable fresh in
    c.write_nodes.ensures.written s underway

pub returns-clause-widens : goal.returns-clause-widens
returns-clause-widens c =
    widens_twice c.args.table.now c.start_state.new.table c.write_nodes.new.table c.in_ok-state.ensures.widens
    c.write_nodes.ensures.widens
