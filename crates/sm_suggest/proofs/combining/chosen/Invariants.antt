-- The fillings so far, and then those of the holes that are left, are all.
use Rattle.sm_suggest.proofs.Imports.{◌≡◌, ◌++◌, map, drop, copy_named, lists_of, chosen}
use Rattle.sm_suggest.proofs.CombinedLemmas.{entry}
use Rattle.sm_suggest.proofs.combining.chosen.Given as goal

abbrev pub invariant-loop-i : goal.invariant-loop-i
invariant-loop-i l =
    map entry l.list.items
    ++ chosen (lists_of l.lists) (drop l.i l.holes) (map copy_named (drop l.i l.copies))
    ≡ chosen (lists_of l.lists) l.holes (map copy_named l.copies)
