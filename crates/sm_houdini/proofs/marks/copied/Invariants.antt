-- The sites so far.
use Rattle.sm_houdini.proofs.Imports.{◌≡◌, take, rows}
use Rattle.sm_houdini.proofs.marks.copied.Given as goal

abbrev pub invariant-loop-list : goal.invariant-loop-list
invariant-loop-list l = rows l.sites.items ≡ rows (take l.list-index l.list-items)
