-- The numbers are those of the first terms and of the rows.
use Rattle.sm_houdini.proofs.EndJobsLemmas.{numbers_adopted}
use Rattle.sm_houdini.proofs.end_jobs.adopted.Goals as goal

pub returns-clause-numbers : goal.returns-clause-numbers
returns-clause-numbers c =
    numbers_adopted c.args.table.now c.adopt.new.self c.in_ok-new.ensures.widens c.args.from c.requires.behind _ c.in_ok-new.new.list.items
    c.deref.result.now c.deref.ensures.value c.numbers_with.result c.in_ok-new.ensures.stored c.numbers_with.ensures
