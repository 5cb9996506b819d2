-- Cited by public clauses: lists with more behind them.
use Rattle.std.specs.Prelude.{◌≡◌, List, ◌++◌}

-- a list is another with more behind it
abbrev pub IsLonger : {A : Type 0} → List A → List A → Type 0
IsLonger {A} old new = (more : List A) × (new ≡ old ++ more)
