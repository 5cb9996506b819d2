use Rattle.sm_text.proofs.Imports.{◌≡◌, length, entries_of}
use Rattle.sm_text.specs.rules.Reading as spec
use Rattle.sm_text.proofs.rules.names.declarations.Given as goal

abbrev pub invariant-declarations : goal.invariant-declarations
invariant-declarations l = spec.declarations l.symbols ≡ spec.more_declarations (entries_of l.list.items) l.after

abbrev pub decreases-declarations : goal.decreases-declarations
decreases-declarations l = length l.after
