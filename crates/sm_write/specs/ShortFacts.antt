-- Private: few facts of short numbers.
use Rattle.std.specs.Prelude.{ℕ, ◌≤◌, List, length}
use Rattle.sm_write.specs.Writable.{AreShortNumbers}

-- at most 200 facts, whose numbers are short
abbrev pub AreShortFacts : List ℕ → Type 0
AreShortFacts ns = (length ns ≤ 200) × AreShortNumbers ns
