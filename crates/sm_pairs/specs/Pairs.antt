-- Cited by public clauses: pairs of terms.
use Rattle.std.specs.Prelude.{Bool}
use Rattle.sm_term.specs.Terms.{Tree}

-- which pairs of terms are equal
abbrev pub Pairs : Type 0
Pairs = Tree → Tree → Bool
