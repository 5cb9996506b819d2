-- The list has what the cells before give.
use Rattle.sm_replay.proofs.Imports.{IsStrictlySortedBy, keys_of, string_cmp}
use Rattle.sm_replay.proofs.MembersLemmas.{ListsBefore}
use Rattle.sm_replay.proofs.input.list_of.Given as goal

abbrev pub invariant-loop-key : goal.invariant-loop-key
invariant-loop-key l = record {
  before : ListsBefore l.cells.entries l.key-iterator l.list.items;
  ordered : IsStrictlySortedBy string_cmp (keys_of l.key-iterator);
}
