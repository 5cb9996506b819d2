use Rattle.sm_houdini.proofs.Imports.{◌≡◌, ◌+◌, ◌≤◌, List, length, sym, ◌∙◌, arith, Assertion, AreCollected, trees_in, sorts_in, widens_twice, forms_ready, form_ready, ready_at}
use Rattle.sm_houdini.proofs.EndLemmas.{goal_passed, goal_ended, goal_left, goals_done}
use Rattle.sm_houdini.proofs.ending.end_run_at.Goals as goal

pub end_goal-requires-clause-facts : goal.end_goal-requires-clause-facts
end_goal-requires-clause-facts c =
    forms_ready c.args.table.now c.loop-goal.table c.loop-goal.invariant.widens c.args.asking.now.due.now.facts.list.items c.requires.facts

pub end_goal-requires-clause-goal : goal.end_goal-requires-clause-goal
end_goal-requires-clause-goal c =
    let v = c.args.table.now in
    let f = c.goal-item.result in
    let i = c.loop-goal.goal-index in
    form_ready v c.loop-goal.table c.loop-goal.invariant.widens f
    (ready_at (sorts_in v) (trees_in v) c.args.run.now i f c.requires.goals
    c.loop-goal-test.true c.goal-item.is)

pub returns-in_err-end-clause-widens : goal.returns-in_err-end-clause-widens
returns-in_err-end-clause-widens c =
    widens_twice c.args.table.now c.loop-goal.table c.end_goal.new.table c.loop-goal.invariant.widens c.in_err-end.ensures.widens

pub returns-then-is_some-clause-widens : goal.returns-then-is_some-clause-widens
returns-then-is_some-clause-widens c =
    widens_twice c.args.table.now c.loop-goal.table c.end_goal.new.table c.loop-goal.invariant.widens c.in_ok-end.ensures.widens

pub returns-then-is_some-clause-ends : goal.returns-then-is_some-clause-ends
returns-then-is_some-clause-ends c = λ goals before.
    let inv = c.loop-goal.invariant in
    let f = c.goal-item.result in
    let i = c.loop-goal.goal-index in
    let a = c.args.asking.now in
    goal_ended c.args.table.now c.loop-goal.table c.end_goal.new.table inv.widens a.reach c.args.first i c.loop-goal.at
    a.due.now c.args.run.now f
    c.requires.facts c.requires.goals c.loop-goal-test.true c.goal-item.is inv.count _ goals c.end_goal.new.trees.items
    (inv.closes goals before)
    c.in_ok-end.end (sym c.is_some.ensures ∙ c.if-is_some.true) (c.in_ok-end.ensures.ends _ (inv.collected goals before))

pub returns-clause-ends : goal.returns-clause-ends
returns-clause-ends c = λ goals before.
    let inv = c.loop-goal.invariant in
    let i = c.loop-goal.goal-index in
    let past : length c.args.run.now ≤ i = omega (arith, c.loop-goal-test.false) in
    let a = c.args.asking.now in
    goals_done c.args.table.now c.loop-goal.table a.reach c.args.first i a.due.now c.args.run.now past goals
    c.loop-goal.trees.items
    (inv.collected goals before) (inv.closes goals before)

pub loop-goal-preserved : goal.loop-goal-preserved
loop-goal-preserved c =
    let inv = c.loop-goal.invariant in
    let v = c.args.table.now in
    let a = c.args.asking.now in
    let f = c.goal-item.result in
    let i = c.loop-goal.goal-index in
    let none = sym c.is_some.ensures ∙ c.if-is_some.false in
    let passed = λ (goals : List (List Assertion × Assertion)) (before : AreCollected v goals c.args.trees.now.items).
    goal_passed v c.loop-goal.table c.end_goal.new.table inv.widens a.reach c.args.first i c.loop-goal.at a.due.now
    c.args.run.now f c.requires.facts
    c.requires.goals c.loop-goal-test.true c.goal-item.is inv.count goals c.end_goal.new.trees.items c.in_ok-end.end none
    (c.in_ok-end.ensures.ends _ (inv.collected goals before)) in
    record {
      count = let next = inv.count in let one : c.loop-goal.at + 1 ≡ c.args.first + (i + 1) = omega (arith, next) in one;
      collected = λ goals before. (passed goals before).1;
      closes = λ goals before later.
          inv.closes goals before later
          ∙ goal_left (sorts_in v) (trees_in v) a.reach c.args.first i a.due.now c.args.run.now f c.loop-goal-test.true
          c.goal-item.is (passed goals before).0 later;
      widens = widens_twice v c.loop-goal.table c.end_goal.new.table inv.widens c.in_ok-end.ensures.widens;
      shared = c.in_ok-end.ensures.shared;
    }
