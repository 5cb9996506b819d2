-- The forms so far are listed.
use Rattle.sm_fm.proofs.Imports.{take, ListsFirsts}
use Rattle.sm_fm.proofs.firsts.list_firsts.Given as goal

abbrev pub invariant-loop-place : goal.invariant-loop-place
invariant-loop-place l = ListsFirsts l.firsts.items (take l.place l.forms) l.atoms
