-- The marks so far that those of the two become.
use Rattle.sm_houdini.proofs.Imports.{◌≡◌, ℕ, Bool, List, take, marked, joins}
use Rattle.sm_houdini.proofs.marks.joined_at.Given as goal

abbrev pub invariant-loop-at : goal.invariant-loop-at
invariant-loop-at l =
    (p q : ℕ → Bool) (ns : List ℕ) → l.marks ≡ marked p 0 ns → l.others ≡ marked q 0 ns →
    l.list.items ≡ marked (λ i. joins l.join (p i) (q i)) 0 (take l.at ns)
