-- The digits that are left, and then those that were taken, turned round, are the digits of the whole.
use Rattle.sm_suggest.proofs.Imports.{◌≡◌, ◌++◌, map, reverse, copy_named, choices}
use Rattle.sm_suggest.proofs.choosing.choices.Given as goal

abbrev pub invariant-loop-left : goal.invariant-loop-left
invariant-loop-left l = choices l.left l.rest ++ map copy_named (reverse l.copies.items) ≡ choices l.holes l.k

abbrev pub decreases-loop-left : goal.decreases-loop-left
decreases-loop-left l = l.left
