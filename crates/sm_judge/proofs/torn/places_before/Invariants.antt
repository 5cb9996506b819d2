-- The last places of labels so far, and the links of the places so far.
use Rattle.sm_judge.proofs.Imports.{◌≡◌, ◌<◌, None, nat_eq, length, get_or, slice_index, get, IsLastWith}
use Rattle.std.proofs.Common.{ℕ}
use Rattle.sm_judge.proofs.torn.places_before.Given as goal

abbrev pub invariant-loop-n : goal.invariant-loop-n
invariant-loop-n l = record {
  count : length l.before.items ≡ l.n;
  latest : (x : ℕ) → IsLastWith l.labels x l.n (get nat_eq l.latest x);
  linked : (m : ℕ) → m < l.n → IsLastWith l.labels (slice_index l.labels m) m (get_or l.before.items m None);
}
