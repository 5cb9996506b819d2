-- What is found in the ends is the verdict, where the programs are those of the task.
use Rattle.sm_replay.proofs.Imports.{List, map, subst, ◌∙◌, Name, Copy, O, task_of, declared_of, Sorts, Code, parts_of, meaning, sorts_of, end_in, sorted_by, Finds, AreEnds}
use Rattle.sm_replay.proofs.RunnableTasks.{sorted_runs}
use Rattle.sm_replay.proofs.RunsSound.{judged_ends, of_task, same_sorts}
use Rattle.sm_replay.proofs.judging.judged_met.Goals as goal

pub ends_of-requires : goal.ends_of-requires
ends_of-requires c =
    sorted_runs (declared_of c.args.task.now.shared.decls)
    (sorts_of c.args.input.now) c.args.programs.now c.requires.sorted c.requires.declared

pub verdict_on-requires : goal.verdict_on-requires
verdict_on-requires c = same_sorts c.in_ok-ends.ends (sorts_of c.args.input.now) c.in_ok-ends.ensures.sorts

pub returns : goal.returns
returns c filled =
    let t = task_of (parts_of c.args.task.now) in
    let s = meaning c.args.input.now in
    let end = end_in c.in_ok-ends.ends in
    let found =
    λ (sorts : Sorts) (outputs : List Name). Finds (sorted_by sorts (map (λ (x : Name). x.0) outputs)) end c.verdict_on.result in
    judged_ends t s c.args.turns end c.requires.met
    (of_task (λ (p : Copy → Code). AreEnds p s c.args.turns end) t c.args.programs.now filled c.in_ok-ends.ensures.ends) c.verdict_on.result
    (subst (λ (sorts : Sorts). found sorts c.args.task.now.shared.outputs.list.items) (c.in_ok-ends.ensures.sorts O ∙ c.requires.declared)
    (subst (found (sorts_of c.in_ok-ends.ends.base)) c.deref.ensures.value c.verdict_on.ensures))
