-- Private: bytes and the line ends in them.
use Rattle.std.specs.Prelude.{◌≡◌, ◌<◌, ◌≤◌, ◌==◌, ℕ, Bool, true, false, length, List, [], ◌∷◌}
use Rattle.sm_proof.specs.Verdicts.{lines_in}

-- no byte ends a line
abbrev pub HasNoEnd : List ℕ → Type 0
HasNoEnd [] = Unit {0}
HasNoEnd (byte ∷ bytes) = (byte == 10 ≡ false) × HasNoEnd bytes

-- the lines of bytes that have an end
abbrev pub ended_in : List ℕ → List (List ℕ)
ended_in bytes = (lines_in bytes).ended

-- what is kept of the bytes behind the last end: all of them, or that no line has so many
abbrev pub Keeps : Bool → List ℕ → List ℕ → Type 0
Keeps true kept bytes = 4096 < length bytes
Keeps false kept bytes = (kept ≡ bytes) × (length bytes ≤ 4096)
