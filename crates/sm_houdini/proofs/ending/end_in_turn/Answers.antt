use Rattle.sm_houdini.proofs.Imports.{[], sym, ◌∙◌, trees_in, sorts_in, widens_twice, forms_ready, AreCollected, goals_ready, facts_at}
use Rattle.sm_houdini.proofs.EndJobsLemmas.{due_whole}
use Rattle.sm_houdini.proofs.EndLemmas.{due_passed, due_ended}
use Rattle.sm_houdini.proofs.ending.end_in_turn.Goals as goal

pub end_run-requires-clause-facts : goal.end_run-requires-clause-facts
end_run-requires-clause-facts c =
    let v = c.args.table.now in
    forms_ready v c.loop-due.table c.loop-due.invariant.widens c.due-item.result.facts.list.items
    (facts_at (sorts_in v) (trees_in v) c.args.dues.now c.loop-due.due-index c.due-item.result c.requires.ready c.loop-due-test.true c.due-item.is).0

pub end_run-requires-clause-goals : goal.end_run-requires-clause-goals
end_run-requires-clause-goals c =
    let v = c.args.table.now in
    goals_ready c.loop-due.table c.due-item.result.targets.list.items c.as_slice-goals.result.now c.as_slice-goals.ensures.value
    (forms_ready v c.loop-due.table c.loop-due.invariant.widens c.due-item.result.targets.list.items
    (facts_at (sorts_in v) (trees_in v) c.args.dues.now c.loop-due.due-index c.due-item.result c.requires.ready c.loop-due-test.true c.due-item.is).1)

pub returns-in_err-end-clause-widens : goal.returns-in_err-end-clause-widens
returns-in_err-end-clause-widens c =
    widens_twice c.args.table.now c.loop-due.table c.end_run.new.table c.loop-due.invariant.widens c.in_err-end.ensures.widens

pub returns-then-is_some-clause-widens : goal.returns-then-is_some-clause-widens
returns-then-is_some-clause-widens c =
    widens_twice c.args.table.now c.loop-due.table c.end_run.new.table c.loop-due.invariant.widens c.in_ok-end.ensures.widens

pub returns-then-is_some-clause-ends : goal.returns-then-is_some-clause-ends
returns-then-is_some-clause-ends c = λ before.
    let inv = c.loop-due.invariant in
    due_ended c.args.table.now c.loop-due.table c.end_run.new.table inv.widens c.args.reach c.loop-due.due-index c.args.dues.now
    c.due-item.result c.requires.ready c.loop-due-test.true c.due-item.is c.requires.inside.closes _ c.end_run.new.trees.items (inv.closes before)
    c.in_ok-end.end (sym c.is_some.ensures ∙ c.if-is_some.true)
    (due_whole c.loop-due.table c.end_run.new.table c.args.reach c.due-item.result c.as_slice-goals.result.now c.as_slice-goals.ensures.value
    _ c.end_run.new.trees.items c.in_ok-end.end (c.in_ok-end.ensures.ends _ (inv.collected before)))

pub loop-due-preserved : goal.loop-due-preserved
loop-due-preserved c =
    let inv = c.loop-due.invariant in
    let v = c.args.table.now in
    let none = sym c.is_some.ensures ∙ c.if-is_some.false in
    let passed = λ (before : AreCollected v [] c.args.trees.now.items).
    due_passed v c.loop-due.table c.end_run.new.table inv.widens c.args.reach c.loop-due.due-index c.args.dues.now c.due-item.result
    c.requires.ready c.loop-due-test.true c.due-item.is c.end_run.new.trees.items c.in_ok-end.end none
    (due_whole c.loop-due.table c.end_run.new.table c.args.reach c.due-item.result c.as_slice-goals.result.now c.as_slice-goals.ensures.value
    _ c.end_run.new.trees.items c.in_ok-end.end (c.in_ok-end.ensures.ends _ (inv.collected before))) in
    record {
      collected = λ before. (passed before).0;
      closes = λ before. inv.closes before ∙ (passed before).1;
      widens = widens_twice v c.loop-due.table c.end_run.new.table inv.widens c.in_ok-end.ensures.widens;
    }
