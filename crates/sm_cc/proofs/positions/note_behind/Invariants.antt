-- What is noted of the first terms.
use Rattle.sm_cc.proofs.Imports.{◌≡◌, length, take, get, trees_in, AreNoted, same_pair}
use Rattle.sm_cc.specs.Views.{trees_of}
use Rattle.sm_cc.proofs.positions.note_behind.Given as goal

abbrev pub invariant-loop-i : goal.invariant-loop-i
invariant-loop-i l = record {
  len : length l.places.items ≡ length (trees_in l.table);
  noted : AreNoted (trees_in l.table) (trees_of (trees_in l.table) (take l.i l.terms)) l.places.items (get same_pair l.reads);
}
