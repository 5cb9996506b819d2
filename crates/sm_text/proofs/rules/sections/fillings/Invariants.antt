use Rattle.sm_text.proofs.Imports.{◌≡◌, length, entries_for}
use Rattle.sm_text.specs.rules.Reading as spec
use Rattle.sm_text.proofs.rules.sections.fillings.Given as goal

abbrev pub invariant-fillings : goal.invariant-fillings
invariant-fillings l = spec.fillings l.symbols ≡ spec.more_fillings (entries_for l.list.items) l.after

abbrev pub decreases-fillings : goal.decreases-fillings
decreases-fillings l = length l.after
