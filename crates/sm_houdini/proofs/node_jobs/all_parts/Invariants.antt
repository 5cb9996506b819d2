-- The marks that the lists so far have.
use Rattle.sm_houdini.proofs.Imports.{◌≡◌, ◌<◌, ℕ, Bool, ◌&&◌, length, get_or, Choice, Marks, all_marked, rows, all_below}
use Rattle.sm_houdini.proofs.node_jobs.all_parts.Given as goal

abbrev pub invariant-loop-part : goal.invariant-loop-part
invariant-loop-part l =
    (passes : ℕ → ℕ → Bool) (told : ℕ → ℕ → ℕ → Bool) (choice : Choice) → rows l.marks.sites.items ≡ all_marked passes 0 choice →
    ((k : ℕ) (d : Marks) → k < length l.parts → rows (get_or l.parts k d).sites.items ≡ all_marked (told k) 0 choice) →
    rows l.all.sites.items ≡ all_marked (λ s i. passes s i && all_below (λ k. told k s i) l.part-index) 0 choice
