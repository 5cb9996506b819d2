use Rattle.sm_list.proofs.Imports.{◌≡◌, map, take, parts_in_list, number_under}
use Rattle.sm_list.proofs.renumber.new_numbers.Given as goal

abbrev pub invariant-loop-t : goal.invariant-loop-t
invariant-loop-t l = parts_in_list l.list.items ≡ map (number_under l.numbers) (parts_in_list (take l.t-index l.terms))
