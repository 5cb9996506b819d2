-- The copies so far stand for the fillings so far.
use Rattle.std.proofs.Common.{◌≡◌, map, take}
use Rattle.sm_suggest.proofs.CombinedLemmas.{entry}
use Rattle.sm_suggest.proofs.combining.copy_fillings.Given as goal

abbrev pub invariant-loop-f : goal.invariant-loop-f
invariant-loop-f l =
    map entry l.list.items
    ≡ map entry (take l.f-index l.f-items)
