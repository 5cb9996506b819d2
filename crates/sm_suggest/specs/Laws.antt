-- Laws of combinations. Public clauses cite it.
use Rattle.std.specs.Prelude.{ℕ}
use Rattle.sm_syntax.specs.text.Parts.{Parts}
use Rattle.sm_text.specs.printing.Named.{HasText}
use Rattle.sm_suggest.specs.Combinations.{combination}
use Rattle.sm_suggest.specs.Fit.{IsFit}

-- a combination of a fit task is fit
abbrev pub CombinationsAreFit : Type 0
CombinationsAreFit = (t : Parts) (k : ℕ) → IsFit t → IsFit (combination t k)

-- a task that some text spells is fit
abbrev pub SpelledAreFit : Type 0
SpelledAreFit = (t : Parts) → HasText t → IsFit t
