-- The marks of the shares so far.
use Rattle.sm_houdini.proofs.Imports.{◌≡◌, ◌<◌, ℕ, Bool, ◌&&◌, length, get_or, choice_in, Marks, all_marked, in_share, rows}
use Rattle.sm_houdini.proofs.ShareLemmas.{among}
use Rattle.sm_houdini.proofs.goal_jobs.all_shares.Given as goal

abbrev pub invariant-loop-part : goal.invariant-loop-part
invariant-loop-part l =
    (passes : ℕ → ℕ → Bool) →
    ((k : ℕ) (d : Marks) → k < length l.parts → rows (get_or l.parts k d).sites.items
    ≡ all_marked (λ s i. in_share (length l.parts) k i && passes s i) 0 (choice_in l.choice)) →
    rows l.marks.sites.items ≡ all_marked (λ s i. among (length l.parts) l.part-index i && passes s i) 0 (choice_in l.choice)
