-- Cited by public clauses: what code needs. These are the names whose values before it decide its
-- end, and the values of the wanted names there.
use Rattle.std.specs.Prelude.{◌⊎◌, ◌≢◌, ℕ, Bool, IsTrue}
use Rattle.sm_syntax.specs.claim.Syntax.{Code, End, Skip, Assign, Write, If, While, Hole}
use Rattle.sm_deps.specs.Names.{mentions, tests}

-- a set of names
abbrev pub NamePredicate : Type 1
NamePredicate = ℕ → Type 0

-- each name of the first set is in the second
abbrev pub Within : NamePredicate → NamePredicate → Type 0
Within first second = (x : ℕ) → first x → second x

-- the names that a test picks
abbrev pub Picked : (ℕ → Bool) → NamePredicate
Picked test x = IsTrue (test x)

-- the least set that holds the first names, and with its own names also what they bring: what all
-- such sets have
abbrev pub Least : NamePredicate → (NamePredicate → NamePredicate) → NamePredicate
Least first brings x =
    (set : ℕ → Bool) →
    Within first (Picked set) →
    Within (brings (Picked set)) (Picked set) →
    IsTrue (set x)

-- the names that code needs, where those of a set are wanted after it. A loop needs the least set
-- that holds what is wanted after it, the names of its guard, and what its body needs for that set.
abbrev pub Needs : Code → NamePredicate → NamePredicate
Needs End wanted x = wanted x
Needs (Skip k) wanted x = Needs k wanted x
Needs (Assign y e k) wanted x =
    (Needs k wanted x × (x ≢ y)) ⊎ (Needs k wanted y × IsTrue (mentions e x))
Needs (Write a i e k) wanted x =
    Needs k wanted x ⊎ (Needs k wanted a × (IsTrue (mentions i x) ⊎ IsTrue (mentions e x)))
Needs (If b c d k) wanted x =
    Needs c (Needs k wanted) x ⊎ (Needs d (Needs k wanted) x ⊎ IsTrue (tests b x))
Needs (While b c k) wanted x = Least (λ (y : ℕ). Needs k wanted y ⊎ IsTrue (tests b y)) (Needs c) x
Needs (Hole h k) wanted x = Needs k wanted x
