-- The end of a run of a node's goals.
use Rattle.sm_houdini.proofs.Imports.{[], sym, subst, AreCollected, first_within}
use Rattle.sm_houdini.proofs.EndedLemmas.{none_collected}
use Rattle.sm_houdini.proofs.EndJobsLemmas.{run_ended, part_ended, goals_part, facts_over}
use Rattle.sm_houdini.proofs.run_ends.run_end.Goals as goal

pub end_run-requires-clause-facts : goal.end_run-requires-clause-facts
end_run-requires-clause-facts c =
    facts_over c.args.table.now c.in_ok-table.table c.in_ok-table.ensures.sorts c.in_ok-table.ensures.trees
    c.args.due.now.facts.list.items c.requires.facts

pub end_run-requires-clause-goals : goal.end_run-requires-clause-goals
end_run-requires-clause-goals c =
    goals_part c.args.table.now c.in_ok-table.table c.in_ok-table.ensures.sorts c.in_ok-table.ensures.trees
    c.size_of-size.result c.in-Some.first c.args.due.now.targets.list.items c.as_slice-goals.result.now c.part-run.result.now
    c.as_slice-goals.ensures.value c.part-run.ensures.part c.requires.goals

pub tail-requires : goal.tail-requires
tail-requires c =
    first_within c.in_ok-table.table c.end_run.new.table c.in_ok-stop.ensures.widens c.len-from.result c.len-from.ensures.len

pub returns : goal.returns
returns c =
    let t = c.in_ok-table.table in
    part_ended c.args.table.now c.args.reach c.args.due.now c.args.each c.args.number c.size_of-size.result c.in-Some.first
    c.as_slice-goals.result.now c.part-run.result.now _ c.as_slice-goals.ensures.value c.size_of-size.ensures c.in-Some.ensures.1
    c.part-run.ensures.part
    (run_ended c.args.table.now t c.end_run.new.table c.in_ok-table.ensures.sorts c.in_ok-table.ensures.trees c.in_ok-stop.ensures.widens
    c.args.reach c.in-Some.first c.len-from.result c.args.due.now c.part-run.result.now _ c.len-from.ensures.len
    c.in_ok-rows.ensures.trees c.in_ok-rows.ensures.sound
    (c.in_ok-stop.ensures.ends [] (subst (AreCollected t []) (sym c.new-trees.ensures.items) (none_collected t))))
