-- Cited by public clauses: terms that differ in their arguments alone. The head of a term is its
-- kind with all that is no term in it; that of a summary has the names of the arguments.
use Rattle.std.specs.Prelude.{◌==◌, Bool, true, false, ◌&&◌, List, [], ◌∷◌}
use Rattle.sm_term.specs.Terms.{Tree, Lit, Start, Havoc, Slot, Cell, Read, Write, Neg, Add, Sub, Mul, Fun, Arguments, Over, Given}
use Rattle.sm_term.specs.SameTerms.{same_code}

-- the terms of arguments
abbrev pub terms_given : Arguments → List Tree
terms_given Over = []
terms_given (Given x t rest) = t ∷ terms_given rest

-- the arguments of a term, in order
abbrev pub arguments_of : Tree → List Tree
arguments_of (Lit z) = []
arguments_of (Start x) = []
arguments_of (Havoc k c x) = []
arguments_of (Slot c x) = []
arguments_of Cell = []
arguments_of (Read a i) = a ∷ i ∷ []
arguments_of (Write a i e) = a ∷ i ∷ e ∷ []
arguments_of (Neg t) = t ∷ []
arguments_of (Add t u) = t ∷ u ∷ []
arguments_of (Sub t u) = t ∷ u ∷ []
arguments_of (Mul t u) = t ∷ u ∷ []
arguments_of (Fun c x args) = terms_given args

-- whether two lists of arguments are of the same names
abbrev pub same_names : Arguments → Arguments → Bool
same_names Over Over = true
same_names (Given x t ts) (Given y u us) = (x == y) && same_names ts us
same_names ts us = false

-- whether two operations, or two summaries, have one head
abbrev pub same_head : Tree → Tree → Bool
same_head (Read a i) (Read b j) = true
same_head (Write a i d) (Write b j e) = true
same_head (Neg t) (Neg u) = true
same_head (Add r s) (Add t u) = true
same_head (Sub r s) (Sub t u) = true
same_head (Mul r s) (Mul t u) = true
same_head (Fun c x ts) (Fun d y us) = same_code c d && ((x == y) && same_names ts us)
same_head t u = false
