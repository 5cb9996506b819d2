-- One run more, and the first goal that stops the search.
use Rattle.sm_houdini.proofs.Imports.{◌≤◌, length, sym, ◌∙◌, arith, trees_in, sorts_in, forms_in, widens_same, widens_twice, due_in, front_within}
use Rattle.sm_houdini.proofs.EndJobsLemmas.{rows_sound, runs_none, collected_none, runs_stop, runs_more, runs_left, runs_done}
use Rattle.sm_houdini.proofs.end_jobs.joined.Goals as goal

pub take_run-requires-clause-behind : goal.take_run-requires-clause-behind
take_run-requires-clause-behind c =
    front_within c.args.table.now c.loop-run.table c.loop-run.invariant.widens c.args.from c.requires.behind

pub take_run-requires-clause-sound : goal.take_run-requires-clause-sound
take_run-requires-clause-sound c =
    rows_sound c.args.table.now c.loop-run.table c.loop-run.invariant.widens c.args.from c.requires.behind c.args.runs.now
    c.loop-run.run-index c.run-item.result c.run-item.is (c.requires.sound c.loop-run.run-index c.run-item.result c.loop-run-test.true)

pub loop-run-init : goal.loop-run-init
loop-run-init c = record {
  collected = λ v wider first reach due asks goals ends before.
      collected_none c.args.table.now (due_in (sorts_in v) (trees_in v) due).facts ends.size
      (forms_in (sorts_in v) (trees_in v) asks) goals c.args.trees.now.items before;
  closes = λ v reach due asks ends later. runs_none v reach ends.size due asks later;
  widens = widens_same c.args.table.now;
}

pub returns-then-is_some-clause-ends : goal.returns-then-is_some-clause-ends
returns-then-is_some-clause-ends c = λ v wider first reach due asks goals ends before.
    runs_stop v c.loop-run.table reach due asks c.args.runs.now ends c.loop-run.run-index c.run-item.result
    c.loop-run-test.true
    c.run-item.is (c.loop-run.invariant.closes v reach due asks ends) (sym c.is_some.ensures ∙ c.if-is_some.true) goals c.loop-run.trees.items

pub loop-run-preserved : goal.loop-run-preserved
loop-run-preserved c =
    let inv = c.loop-run.invariant in
    let i = c.loop-run.run-index in
    let run = c.run-item.result in
    let none = sym c.is_some.ensures ∙ c.if-is_some.false in
    record {
      collected = λ v wider first reach due asks goals ends before.
          runs_more v c.loop-run.table c.take_run.new.table (widens_twice v c.args.table.now c.loop-run.table wider inv.widens) c.args.from
          first reach due asks c.args.runs.now ends i run
          c.loop-run-test.true c.run-item.is none goals c.loop-run.trees.items c.take_run.new.trees.items c.in_ok-take_run.ensures.collected
          (inv.collected v wider first reach due asks goals ends before);
      closes = λ v reach due asks ends later.
          inv.closes v reach due asks ends later
          ∙ runs_left v reach due asks c.args.runs.now ends i run c.loop-run-test.true c.run-item.is none later;
      widens = widens_twice c.args.table.now c.loop-run.table c.take_run.new.table inv.widens c.in_ok-take_run.ensures.widens;
    }

pub returns-in_err-take_run-clause-widens : goal.returns-in_err-take_run-clause-widens
returns-in_err-take_run-clause-widens c =
    widens_twice c.args.table.now c.loop-run.table c.take_run.new.table c.loop-run.invariant.widens c.in_err-take_run.ensures.widens

pub returns-clause-ends : goal.returns-clause-ends
returns-clause-ends c = λ v wider first reach due asks goals ends before.
    let past : length c.args.runs.now ≤ c.loop-run.run-index = omega (arith, c.loop-run-test.false) in
    runs_done v c.loop-run.table reach due asks c.args.runs.now ends c.loop-run.run-index past goals c.loop-run.trees.items
    (c.loop-run.invariant.collected v wider first reach due asks goals ends before) (c.loop-run.invariant.closes v reach due asks ends)
