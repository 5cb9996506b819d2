-- What some text spells is numbered and sorted, and has no hole in a filling.
use Rattle.calls.proofs.SpelledTasks.{no_hole, numbered, sorted_in}
use Rattle.calls.proofs.tasks.put_first.Goals as goal

pub templates-requires-clause-numbered : goal.templates-requires-clause-numbered
templates-requires-clause-numbered c = numbered _ c.requires.printable

pub templates-requires-clause-no_hole : goal.templates-requires-clause-no_hole
templates-requires-clause-no_hole c = no_hole _ c.requires.printable

pub templates-requires-clause-programs : goal.templates-requires-clause-programs
templates-requires-clause-programs c = sorted_in _ c.requires.printable _ c.in_ok-table.ensures.sorts
