-- The places behind the next one are searched.
use Rattle.sm_judge.proofs.Imports.{◌≡◌, ◌<◌, IfSome, List, length, trees_in, sorts_in, behind, AreLinked}
use Rattle.std.proofs.Common.{ℕ}
use Rattle.sm_judge.proofs.TornLemmas.{IsSearched}
use Rattle.sm_judge.proofs.torn.partner.Given as goal

abbrev pub invariant-loop-next : goal.invariant-loop-next
invariant-loop-next l =
    let trees = trees_in l.table in
    record {
      below : IfSome l.next (λ (m : ℕ). m < l.t.0);
      searched :
          (labels : List ℕ) → length labels ≡ length l.before → AreLinked labels l.before →
          IsSearched (sorts_in l.table) trees labels l.t.0 l.next;
    }

abbrev pub decreases-loop-next : goal.decreases-loop-next
decreases-loop-next l = behind l.next
