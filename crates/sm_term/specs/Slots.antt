-- Cited by public clauses: terms and formulas with the copies' present terms in place of slots.
use Rattle.std.specs.Prelude.{List, map}
use Rattle.sm_syntax.specs.claim.ConflictFree.{Copy}
use Rattle.sm_term.specs.Terms.{Tree, Lit, Start, Havoc, Slot, Cell, Read, Write, Neg, Add, Sub, Mul, Fun, Arguments, Over, Given}
use Rattle.sm_term.specs.Assertions.{Assertion, Yes, No, Eq, Ne, Le, Lt, And, Or}
use Rattle.sm_term.specs.Symbolic.{SymbolicStore}

abbrev mutual
  -- a term with each slot replaced
  pub fill_term : (Copy → SymbolicStore) → Tree → Tree
  fill_term s (Lit z) = Lit z
  fill_term s (Start x) = Start x
  fill_term s (Havoc k c x) = Havoc k c x
  fill_term s (Slot c x) = s c x
  fill_term s Cell = Cell
  fill_term s (Read a i) = Read (fill_term s a) (fill_term s i)
  fill_term s (Write a i e) = Write (fill_term s a) (fill_term s i) (fill_term s e)
  fill_term s (Neg t) = Neg (fill_term s t)
  fill_term s (Add t u) = Add (fill_term s t) (fill_term s u)
  fill_term s (Sub t u) = Sub (fill_term s t) (fill_term s u)
  fill_term s (Mul t u) = Mul (fill_term s t) (fill_term s u)
  fill_term s (Fun c x args) = Fun c x (fill_arguments s args)

  -- arguments with each slot replaced
  pub fill_arguments : (Copy → SymbolicStore) → Arguments → Arguments
  fill_arguments s Over = Over
  fill_arguments s (Given x t rest) = Given x (fill_term s t) (fill_arguments s rest)

-- a formula with each slot replaced
abbrev pub at_stores : (Copy → SymbolicStore) → Assertion → Assertion
at_stores s Yes = Yes
at_stores s No = No
at_stores s (Eq sort t u) = Eq sort (fill_term s t) (fill_term s u)
at_stores s (Ne sort t u) = Ne sort (fill_term s t) (fill_term s u)
at_stores s (Le t u) = Le (fill_term s t) (fill_term s u)
at_stores s (Lt t u) = Lt (fill_term s t) (fill_term s u)
at_stores s (And p q) = And (at_stores s p) (at_stores s q)
at_stores s (Or p q) = Or (at_stores s p) (at_stores s q)

-- formulas with each slot replaced
abbrev pub all_at_stores : (Copy → SymbolicStore) → List Assertion → List Assertion
all_at_stores s fs = map (at_stores s) fs
