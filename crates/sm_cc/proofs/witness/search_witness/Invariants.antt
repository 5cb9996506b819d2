-- No place that was passed differs from one of the class.
use Rattle.sm_cc.proofs.Imports.{◌≡◌, ℕ, ◌<◌, ◌&&◌, false, any_differs, board_of, are_together}
use Rattle.sm_cc.proofs.witness.search_witness.Given as goal

abbrev pub invariant-loop-p : goal.invariant-loop-p
invariant-loop-p l =
    (m : ℕ) → m < l.p → (are_together l.c.roots.items m l.i && any_differs (board_of l.c) (are_together l.c.roots.items) m l.j) ≡ false
