use Rattle.sm_proof.proofs.Imports.{◌≡◌, ℕ, List, ◌++◌, length, option_map, behind, any, numbers_in}
use Rattle.sm_proof.proofs.read.fact_numbers.Given as goal

-- the numbers so far stand before those of the words that are left
abbrev pub invariant-loop-left : goal.invariant-loop-left
invariant-loop-left l =
    numbers_in any (behind l.rest) ≡ option_map (λ (ns : List ℕ). l.list.items ++ ns) (numbers_in any (behind l.left))

abbrev pub decreases-loop-left : goal.decreases-loop-left
decreases-loop-left l = length l.left
