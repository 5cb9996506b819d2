-- Private: parts that are put after others.
use Rattle.std.specs.Prelude.{◌≡◌, ℕ, ℤ, List, [], ◌++◌}
use Rattle.sm_num.specs.Combining.{Outcome, Fits, then_with, with_part}

-- a part whose coefficient is computed is put after others, where it isn't 0
pub record Puts (old : List (ℕ × ℤ)) (a : ℕ) (c : Outcome ℤ) (new : List (ℕ × ℤ)) : Type 0 where
  pub number : ℤ
  pub fits : c ≡ Fits number
  pub put : new ≡ old ++ with_part a number []

-- parts that are computed, after others
abbrev pub behind : List (ℕ × ℤ) → Outcome (List (ℕ × ℤ)) → Outcome (List (ℕ × ℤ))
behind out parts = then_with parts (λ (ps : List (ℕ × ℤ)). Fits (out ++ ps))
