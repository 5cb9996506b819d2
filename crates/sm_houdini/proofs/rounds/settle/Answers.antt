use Rattle.sm_houdini.proofs.Imports.{◌≤◌, sym, ◌∙◌, arith, sort_of, declared_of, widens_twice, choice_in, closing}
use Rattle.sm_text.specs.Tasks.{parts_of}
use Rattle.sm_houdini.proofs.RoundSteps.{knows_stays}
use Rattle.sm_houdini.proofs.TotalsLemmas.{now_settled, later_settled, all_settled}
use Rattle.sm_houdini.proofs.rounds.settle.Goals as goal

pub all_stay-requires-clause-knows : goal.all_stay-requires-clause-knows
all_stay-requires-clause-knows g c = λ κs within.
    let s = c.args.subject.now in
    knows_stays c.args.table.now c.loop.table c.loop.invariant.widens s.task.now s.product.now c.requires.knows

pub returns-then-stay-clause-settled : goal.returns-then-stay-clause-settled
returns-then-stay-clause-settled g c =
    let task = c.args.subject.now.task.now in
    let closes = closing (sort_of (declared_of task.shared.decls)) c.args.reach in
    now_settled closes (parts_of task) c.in_ok-rounds.rounds c.loop.counter (choice_in c.loop.choice) (choice_in c.all_stay.new.choice)
    c.loop-test.true c.in_ok-stay.ensures.next (sym c.in_ok-stay.ensures.stay ∙ c.if-stay.true)
    ∙ c.loop.invariant.settles

pub loop-preserved : goal.loop-preserved
loop-preserved g c =
    let task = c.args.subject.now.task.now in
    let closes = closing (sort_of (declared_of task.shared.decls)) c.args.reach in
    record {
      settles =
          sym (later_settled closes (parts_of task) c.in_ok-rounds.rounds c.loop.counter (choice_in c.loop.choice)
          (choice_in c.all_stay.new.choice) c.loop-test.true c.in_ok-stay.ensures.next (sym c.in_ok-stay.ensures.stay ∙ c.if-stay.false))
          ∙ c.loop.invariant.settles;
      before = c.in_ok-stay.ensures.before;
      widens = widens_twice c.args.table.now c.loop.table c.all_stay.new.table c.loop.invariant.widens c.in_ok-stay.ensures.widens;
    }

pub returns-clause-settled : goal.returns-clause-settled
returns-clause-settled g c =
    let task = c.args.subject.now.task.now in
    let closes = closing (sort_of (declared_of task.shared.decls)) c.args.reach in
    let past : c.in_ok-rounds.rounds ≤ c.loop.counter = omega (arith, c.loop-test.false) in
    sym (all_settled closes (parts_of task) c.in_ok-rounds.rounds c.loop.counter (choice_in c.loop.choice) past) ∙ c.loop.invariant.settles
