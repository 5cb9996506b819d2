-- The goal at a place is ready.
use Rattle.sm_deeper.proofs.Imports.{Some, List, slice_get, sym, ap, ◌∙◌, Formula, trees_in, sorts_in, ready_found}
use Rattle.std.proofs.lemmas.Option.{slice_get-get_or}
use Rattle.sm_deeper.proofs.judging.walk_at.Goals as goal

pub walked-requires-clause-goal : goal.walked-requires-clause-goal
walked-requires-clause-goal c =
    ready_found (sorts_in c.args.table.now) (trees_in c.args.table.now) c.args.due.now.targets.list.items c.args.at c.in-Some.goal.now
    (ap (λ (fs : List Formula). slice_get fs c.args.at) (sym c.deref.ensures.value)
    ∙ slice_get-get_or c.deref.result.now c.args.at c.in-Some.goal.now c.in-Some.ensures.lookup.3.0
    ∙ ap (λ (f : Formula). Some f) (sym (c.in-Some.ensures.lookup.3.1 c.in-Some.goal.now)))
    c.requires.goals
