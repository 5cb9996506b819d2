-- The first names are there.
use Rattle.sm_template.proofs.Imports.{◌≡◌, take, is_in, either}
use Rattle.sm_deps.specs.Members.{members}
use Rattle.sm_template.proofs.WrittenLemmas.{numbers_of}
use Rattle.sm_template.proofs.written.add_names.Given as goal

abbrev pub invariant-loop-x : goal.invariant-loop-x
invariant-loop-x l = members l.set ≡ either (members l.fn.set) (is_in (numbers_of (take l.x-index l.x-items)))
