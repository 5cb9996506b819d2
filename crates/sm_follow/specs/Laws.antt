-- Laws of what could stand behind a text. Public clauses cite it.
use Rattle.std.specs.Prelude.{◌≡◌, ℕ, List}
use Rattle.sm_follow.specs.Following.{IsFollowLine}

-- a text has one line of what could stand behind it
abbrev pub OneFollowLine : Type 0
OneFollowLine =
    (text l m : List ℕ) → IsFollowLine text l → IsFollowLine text m → l ≡ m
