-- Each index that is given has its number, or it is among those that are left.
use Rattle.sm_replay.proofs.Imports.{◌≡◌, drop, object, members_view, meaning, sorts_of, elements}
use Rattle.sm_replay.proofs.UpdatesSound.{Overriding}
use Rattle.sm_replay.proofs.input.give_cells.Given as goal

abbrev pub invariant-loop-i : goal.invariant-loop-i
invariant-loop-i l = record {
  overriding : Overriding (elements (object (members_view l.cells.entries))) l.a.0 (drop l.i-index l.i-items) (meaning l.fn.s)
      (meaning l.s);
  sorts : sorts_of l.s ≡ sorts_of l.fn.s;
}
