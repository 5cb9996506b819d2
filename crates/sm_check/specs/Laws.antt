-- Cited by public clauses: laws of checking.
use Rattle.std.specs.Prelude.{ℕ, List}
use Rattle.sm_syntax.specs.text.Parts.{Parts}
use Rattle.sm_syntax.specs.text.Spells.{Spells}
use Rattle.sm_check.specs.Checkable.{IsCheckable}

-- proofs of each task that a text spells may be checked
abbrev pub SpelledIsCheckable : Type 0
SpelledIsCheckable = (bytes : List ℕ) (t : Parts) → Spells bytes t → IsCheckable t
