-- A line that goes on in no way, in one or in two: what follows where none of its ways is faulty.
use Rattle.sm_cert.proofs.Imports.{◌≡◌, ℕ, Some, None, List, [], ◌∷◌, refl, BranchFact, Ways, in_two_ways, in_one_way, in_no_way}
use Rattle.std.proofs.Common.{Option}

-- a line that goes on in two ways
pub two_ways : (w : Ways) (n : ℕ) (next : List BranchFact → List BranchFact → Option ℕ) → in_two_ways w n next ≡ None →
    (way : List BranchFact) × (other : List BranchFact) × (w ≡ Some (way ∷ other ∷ [])) × (next way other ≡ None)
two_ways None n next e = absurd cc
two_ways (Some []) n next e = absurd cc
two_ways (Some (way ∷ [])) n next e = absurd cc
two_ways (Some (way ∷ other ∷ [])) n next e = (way, other, refl, e)
two_ways (Some (way ∷ other ∷ third ∷ rest)) n next e = absurd cc

-- a line that may go on in one way, in none, or in two
pub one_way : (w : Ways) (n : ℕ) (next : List BranchFact → Option ℕ) → in_one_way w n next ≡ None →
    (way : List BranchFact) × (w ≡ Some (way ∷ [])) × (next way ≡ None)
one_way None n next e = absurd cc
one_way (Some []) n next e = absurd cc
one_way (Some (way ∷ [])) n next e = (way, refl, e)
one_way (Some (way ∷ other ∷ rest)) n next e = absurd cc

-- a line that goes on in no way
pub no_way : (w : Ways) (n : ℕ) → in_no_way w n ≡ None → w ≡ Some []
no_way None n e = absurd cc
no_way (Some []) n e = refl
no_way (Some (way ∷ rest)) n e = absurd cc
