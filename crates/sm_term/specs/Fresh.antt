-- Cited by public clauses: terms and formulas that name only new values of nodes below a number.
use Rattle.std.specs.Prelude.{ℕ, ◌<◌, List, [], ◌∷◌}
use Rattle.sm_term.specs.Terms.{Tree, Lit, Start, Havoc, Slot, Cell, Read, Write, Neg, Add, Sub, Mul, Fun, Arguments, Over, Given}
use Rattle.sm_term.specs.Assertions.{Assertion, Yes, No, Eq, Ne, Le, Lt, And, Or}

abbrev mutual
  -- the term names no new value of node k or of a later one
  pub IsBelow : ℕ → Tree → Type 0
  IsBelow k (Lit z) = Unit {0}
  IsBelow k (Start x) = Unit {0}
  IsBelow k (Havoc j c x) = j < k
  IsBelow k (Slot c x) = Unit {0}
  IsBelow k Cell = Unit {0}
  IsBelow k (Read a i) = IsBelow k a × IsBelow k i
  IsBelow k (Write a i e) = IsBelow k a × IsBelow k i × IsBelow k e
  IsBelow k (Neg t) = IsBelow k t
  IsBelow k (Add t u) = IsBelow k t × IsBelow k u
  IsBelow k (Sub t u) = IsBelow k t × IsBelow k u
  IsBelow k (Mul t u) = IsBelow k t × IsBelow k u
  IsBelow k (Fun c x args) = AreBelow k args

  -- the arguments name no new value of node k or of a later one
  pub AreBelow : ℕ → Arguments → Type 0
  AreBelow k Over = Unit {0}
  AreBelow k (Given x t rest) = IsBelow k t × AreBelow k rest

-- the formula names no new value of node k or of a later one
abbrev pub IsFormBelow : ℕ → Assertion → Type 0
IsFormBelow k Yes = Unit {0}
IsFormBelow k No = Unit {0}
IsFormBelow k (Eq sort t u) = IsBelow k t × IsBelow k u
IsFormBelow k (Ne sort t u) = IsBelow k t × IsBelow k u
IsFormBelow k (Le t u) = IsBelow k t × IsBelow k u
IsFormBelow k (Lt t u) = IsBelow k t × IsBelow k u
IsFormBelow k (And p q) = IsFormBelow k p × IsFormBelow k q
IsFormBelow k (Or p q) = IsFormBelow k p × IsFormBelow k q

-- the formulas of a list name no new value of node k or of a later one
abbrev pub AreFormsBelow : ℕ → List Assertion → Type 0
AreFormsBelow k [] = Unit {0}
AreFormsBelow k (f ∷ fs) = IsFormBelow k f × AreFormsBelow k fs
