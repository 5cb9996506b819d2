-- Which names code assigns. Public clauses cite it.
use Rattle.std.specs.Prelude.{ℕ, Bool, false, ◌==◌, ◌||◌}
use Rattle.sm_syntax.specs.claim.Syntax.{Code, End, Skip, Assign, Write, If, While, Hole}

-- whether code assigns a name, or an element of the array with that name
abbrev pub assigns : Code → ℕ → Bool
assigns End x = false
assigns (Skip k) x = assigns k x
assigns (Assign y e k) x = x == y || assigns k x
assigns (Write a i e k) x = x == a || assigns k x
assigns (If b c d k) x = assigns c x || assigns d x || assigns k x
assigns (While b c k) x = assigns c x || assigns k x
assigns (Hole h k) x = assigns k x
