-- So many atoms have a list.
use Rattle.sm_fm.proofs.Imports.{[], ListsFirsts}
use Rattle.sm_fm.proofs.firsts.no_places.Given as goal

abbrev pub invariant-loop-atom : goal.invariant-loop-atom
invariant-loop-atom l = ListsFirsts l.firsts.items [] l._atom
