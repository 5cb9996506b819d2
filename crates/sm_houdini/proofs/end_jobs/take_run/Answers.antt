-- The certificates of the run show the same goals under the new numbers.
use Rattle.sm_houdini.proofs.EndJobsLemmas.{run_taken}
use Rattle.sm_houdini.proofs.end_jobs.take_run.Goals as goal

pub returns-clause-collected : goal.returns-clause-collected
returns-clause-collected c = λ copy goals more sorts trees before run.
    run_taken c.args.table.now c.adopted.new.table copy c.in_ok-numbers.ensures.widens _ c.in_ok-numbers.numbers.items c.deref-2.result.now
    c.deref-2.ensures.value c.in_ok-numbers.ensures.numbers sorts trees goals more c.args.trees.now.items c.args.run.now.trees.items
    c.deref.result.now c.in_ok-renumbered.renumbered.items c.append.new.self.items c.deref.ensures.value c.in_ok-append.ensures.items
    c.in_ok-renumbered.ensures.same c.in_ok-renumbered.ensures.within before run
