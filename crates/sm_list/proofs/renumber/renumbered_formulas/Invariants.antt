use Rattle.sm_list.proofs.Imports.{◌≡◌, map, take, number_under, all_numbered, formula_under}
use Rattle.sm_list.proofs.renumber.renumbered_formulas.Given as goal

abbrev pub invariant-loop-f : goal.invariant-loop-f
invariant-loop-f l = all_numbered l.list.items ≡ map (formula_under (number_under l.numbers)) (all_numbered (take l.f-index l.facts))
