use Rattle.sm_text.proofs.Imports.{◌≡◌, length, numbers_of}
use Rattle.sm_text.specs.rules.Reading as spec
use Rattle.sm_text.proofs.rules.names.more_names.Given as goal

abbrev pub invariant-names : goal.invariant-names
invariant-names l = spec.more_names (numbers_of l.fn.list.items) l.symbols ≡ spec.more_names (numbers_of l.list.items) l.after

abbrev pub decreases-names : goal.decreases-names
decreases-names l = length l.after
