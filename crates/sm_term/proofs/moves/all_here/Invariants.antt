-- The first parts have been moved.
use Rattle.sm_term.proofs.Imports.{◌≡◌, map, take, parts_in_list, moved_part}
use Rattle.sm_term.proofs.moves.all_here.Given as goal

abbrev pub invariant-loop-part : goal.invariant-loop-part
invariant-loop-part l = parts_in_list l.list.items ≡ map (moved_part l.from (parts_in_list l.answers)) (parts_in_list (take l.part-index l.parts))
