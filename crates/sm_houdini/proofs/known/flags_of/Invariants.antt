-- The flags so far.
use Rattle.sm_houdini.proofs.Imports.{◌≡◌, length, TableValue, Reach, IsAsked, AreKnown}
use Rattle.sm_houdini.proofs.known.flags_of.Given as goal

abbrev pub invariant-loop-at : goal.invariant-loop-at
invariant-loop-at l = record {
  count : length l.flags.items ≡ l.at;
  known : (v : TableValue) (reach : Reach) → IsAsked v reach l.owners l.before → AreKnown v reach l.dues l.flags.items;
}
