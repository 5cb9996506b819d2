-- Cited by public clauses: terms that stand at their places.
use Rattle.std.specs.Prelude.{ℕ, ◌<◌, List, length}
use Rattle.sm_term.specs.Terms.{Tree}
use Rattle.sm_term.specs.Tables.{tree_at}
use Rattle.sm_theory.specs.Standing.{HasPlaces}
use Rattle.sm_judge.specs.Forms.{place_in}

-- terms and the operands of their operations stand at their places
abbrev pub HavePlaces : List Tree → Type 0
HavePlaces trees = (i : ℕ) → i < length trees → HasPlaces trees (place_in trees) (tree_at trees i)

-- the first so many terms and the operands of their operations stand at their places
abbrev pub HavePlacesBelow : List Tree → ℕ → Type 0
HavePlacesBelow trees n = (i : ℕ) → i < n → HasPlaces trees (place_in trees) (tree_at trees i)
