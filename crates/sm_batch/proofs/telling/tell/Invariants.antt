-- The replies so far are followed by those of the rest; as many answers are left as are wanted.
use Rattle.sm_batch.proofs.Imports.{◌≡◌, ◌++◌, ℕ, List, length, Vec, Global, into_iter_items, Step, AreTold, misses}
use Rattle.sm_batch.proofs.telling.tell.Given as goal

abbrev pub invariant-loop-one : goal.invariant-loop-one
invariant-loop-one l =
    ((rs : List (Vec ℕ Global)) (ss : List Step) →
    AreTold (into_iter_items l.one-iterator) (into_iter_items l.answers) rs ss →
    AreTold l.fn.looked.items l.fn.answers.items (l.replies.items ++ rs) (l.steps.items ++ ss))
    × (misses (into_iter_items l.one-iterator) ≡ length (into_iter_items l.answers))
