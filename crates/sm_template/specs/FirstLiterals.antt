-- Private: literals that are taken one by one.
use Rattle.std.specs.Prelude.{ℤ, pos, int_lt, nat_lt, Bool, not, ◌&&◌, if◌then◌else◌, List, [], ◌∷◌, ◌++◌, length, fold}
use Rattle.std.specs.List.{list_any}
use Rattle.std.specs.Ordering.{int_eq}

-- whether a literal is taken where these are
abbrev pub is_taken : List ℤ → ℤ → Bool
is_taken seen z =
    int_lt (pos 0) z && (nat_lt (length seen) 8 && not (list_any (int_eq z) seen))

-- the literals with one more, where it is taken
abbrev pub with_literal : List ℤ → ℤ → List ℤ
with_literal seen z = if is_taken seen z then seen ++ z ∷ [] else seen

-- the literals with several more, each where it is taken
abbrev pub with_literals : List ℤ → List ℤ → List ℤ
with_literals seen zs = fold with_literal seen zs
