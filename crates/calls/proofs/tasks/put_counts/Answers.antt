-- What some text spells is numbered and sorted, and has no hole in a filling.
use Rattle.calls.proofs.SpelledTasks.{no_hole, numbered, sorted}
use Rattle.calls.proofs.tasks.put_counts.Goals as goal

pub sites-requires-clause-numbered : goal.sites-requires-clause-numbered
sites-requires-clause-numbered c = numbered _ c.requires

pub sites-requires-clause-no_hole : goal.sites-requires-clause-no_hole
sites-requires-clause-no_hole c = no_hole _ c.requires

pub sites-requires-clause-sorted : goal.sites-requires-clause-sorted
sites-requires-clause-sorted c = sorted _ c.requires
