-- When a suggestion is refused. Public clauses cite it.
use Rattle.std.specs.Prelude.{◌≡◌, ◌<◌, ℕ}
use Rattle.sm_suggest.specs.declared.error.SuggestError.{SuggestError}
use Rattle.sm_suggest.specs.declared.error.SuggestError.TheVariants.{TooManyHoles, Memory}

-- an error for a program of so many holes: these are more than 8, or memory is wanting
abbrev pub IsFor : ℕ → SuggestError → Type 0
IsFor holes (TooManyHoles count) = (count ≡ holes) × (8 < holes)
IsFor holes Memory = Unit {0}
