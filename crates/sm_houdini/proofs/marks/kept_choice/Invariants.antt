-- What the sites so far keep.
use Rattle.sm_houdini.proofs.Imports.{◌≡◌, take, rows}
use Rattle.std.proofs.Common.{map}
use Rattle.sm_houdini.specs.Marks.{numbers_of}
use Rattle.sm_houdini.proofs.marks.kept_choice.Given as goal

abbrev pub invariant-loop-list : goal.invariant-loop-list
invariant-loop-list l = rows l.sites.items ≡ map numbers_of (rows (take l.list-index l.list-items))
