-- Cited by public clauses: the lines of a certificate, and the facts that they name.
use Rattle.std.specs.Prelude.{ℕ, slice_get, Option, Some, None, List}
use Rattle.sm_syntax.specs.declared.tree.Sort.{Sort}
use Rattle.sm_num.specs.Forms.{Linear}
use Rattle.sm_term.specs.Terms.{Tree}
use Rattle.sm_term.specs.Assertions.{Assertion, Yes, No, Eq, Ne, Le, Lt, And, Or}
use Rattle.sm_theory.specs.Facts.{BranchFact, Formal, Sum}

-- a line: facts are named by their numbers on the branch, and terms in a way that is left open
pub data LineOver (T : Type 0) : Type 0 where
  -- both parts of a conjunction
  Both : ℕ → LineOver T
  -- one part of a disjunction, or the other
  Either : ℕ → LineOver T
  -- two numbers are equal, or they aren't
  Cases : T → T → LineOver T
  -- of two numbers that aren't equal one is less than the other
  Order : ℕ → LineOver T
  -- equality: reflexive, symmetric, transitive, put into a contrary, and kept by functions
  Refl : T → LineOver T
  Sym : ℕ → LineOver T
  Trans Subst : ℕ → ℕ → LineOver T
  Cong : T → T → List ℕ → LineOver T
  -- numbers whose linear forms are equal, or differ in the constant alone
  Same Apart : T → T → LineOver T
  -- an element that was written is read, at its index or at another
  Hit : T → ℕ → LineOver T
  Miss : T → T → ℕ → LineOver T
  -- a comparison as a linear form, the sum of two in which an atom cancels, and a tight form
  Lin : ℕ → LineOver T
  Elim : ℕ → ℕ → T → LineOver T
  Tight : ℕ → LineOver T
  -- the forms of the branch have no solution, by the exact decision in so many steps
  Exact : ℕ → LineOver T
  -- a fact that can't hold, or a fact and its contrary
  Close : ℕ → LineOver T
  Clash : ℕ → ℕ → LineOver T

-- a line whose terms stand whole
abbrev pub CertificateLine : Type 0
CertificateLine = LineOver Tree

-- goes on with what is there
abbrev pub followed : {S T : Type 0} → Option S → (S → Option T) → Option T
followed None next = None
followed (Some s) next = next s

-- a fact that is a formula
abbrev pub formula_in : BranchFact → Option Assertion
formula_in (Formal f) = Some f
formula_in (Sum f) = None

-- a fact that is a linear form
abbrev pub form_in : BranchFact → Option (Linear Tree)
form_in (Formal f) = None
form_in (Sum f) = Some f

-- fact n, where it is a formula
abbrev pub formula_at : List BranchFact → ℕ → Option Assertion
formula_at facts n = followed (slice_get facts n) formula_in

-- fact n, where it is a linear form
abbrev pub form_at : List BranchFact → ℕ → Option (Linear Tree)
form_at facts n = followed (slice_get facts n) form_in

-- the two terms that an equation or its contrary compares, as what has a sort
pub record Sides : Type 0 where
  pub sort : Sort
  pub left : Tree
  pub right : Tree

-- the sides of an equation
abbrev pub equal_sides : Assertion → Option Sides
equal_sides Yes = None
equal_sides No = None
equal_sides (Eq sort t u) = Some (record { sort = sort; left = t; right = u })
equal_sides (Ne sort t u) = None
equal_sides (Le t u) = None
equal_sides (Lt t u) = None
equal_sides (And p q) = None
equal_sides (Or p q) = None

-- the sides of the contrary of an equation
abbrev pub unequal_sides : Assertion → Option Sides
unequal_sides Yes = None
unequal_sides No = None
unequal_sides (Eq sort t u) = None
unequal_sides (Ne sort t u) = Some (record { sort = sort; left = t; right = u })
unequal_sides (Le t u) = None
unequal_sides (Lt t u) = None
unequal_sides (And p q) = None
unequal_sides (Or p q) = None

-- the sides of fact n, where it is an equation
abbrev pub equation_at : List BranchFact → ℕ → Option Sides
equation_at facts n = followed (formula_at facts n) equal_sides

-- the sides of fact n, where it is the contrary of an equation
abbrev pub contrary_at : List BranchFact → ℕ → Option Sides
contrary_at facts n = followed (formula_at facts n) unequal_sides
