-- No place that was passed differs.
use Rattle.sm_cc.proofs.Imports.{◌≡◌, ℕ, ◌<◌, ◌&&◌, false, places_differ, board_of, are_together}
use Rattle.sm_cc.proofs.witness.find_other.Given as goal

abbrev pub invariant-loop-q : goal.invariant-loop-q
invariant-loop-q l =
    (m : ℕ) → m < l.q → (are_together l.c.roots.items m l.j && places_differ (board_of l.c) l.p m) ≡ false
