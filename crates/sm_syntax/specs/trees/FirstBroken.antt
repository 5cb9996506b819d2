-- Which part of Keeps fails first at a cell. Public clauses cite it.
use Rattle.std.specs.Prelude.{◌≡◌, ◌⊎◌, ℕ, ℤ}
use Rattle.sm_syntax.specs.claim.Keeps.{KeepsChange, AddsNothing}

-- the part with this number is the first that fails: 1 is the change of A, 2 that of B, 3 a change
-- that nobody made
abbrev pub IsFirstBroken : ℕ → ℤ → ℤ → ℤ → ℤ → Type 0
IsFirstBroken part base a b candidate =
    ((part ≡ 1) × (¬ KeepsChange base a candidate))
    ⊎ ((part ≡ 2) × KeepsChange base a candidate × (¬ KeepsChange base b candidate))
    ⊎ ((part ≡ 3) × KeepsChange base a candidate × KeepsChange base b candidate
    × (¬ AddsNothing base a b candidate))
