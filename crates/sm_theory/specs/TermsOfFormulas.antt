-- Cited by public clauses: the terms of formulas, in an order that doesn't depend on a table of terms.
use Rattle.std.specs.Prelude.{Bool, if◌then◌else◌, List, [], ◌∷◌, ◌++◌}
use Rattle.std.specs.List.{list_any}
use Rattle.sm_term.specs.Terms.{Tree, Lit, Start, Havoc, Slot, Cell, Read, Write, Neg, Add, Sub, Mul, Fun, Arguments, Over, Given}
use Rattle.sm_term.specs.Assertions.{Assertion, Yes, No, Eq, Ne, Le, Lt, And, Or}
use Rattle.sm_term.specs.SameTerms.{same_tree}

-- whether a term is in a list
abbrev pub is_among : List Tree → Tree → Bool
is_among terms t = list_any (same_tree t) terms

-- a term behind others, where it isn't among them
abbrev pub put : Tree → List Tree → List Tree
put t seen = if is_among seen t then seen else seen ++ t ∷ []

abbrev mutual
  -- a term behind others, after its arguments
  pub with_term : Tree → List Tree → List Tree
  with_term (Lit z) seen = put (Lit z) seen
  with_term (Start x) seen = put (Start x) seen
  with_term (Havoc k c x) seen = put (Havoc k c x) seen
  with_term (Slot c x) seen = put (Slot c x) seen
  with_term Cell seen = put Cell seen
  with_term (Read a i) seen = put (Read a i) (with_term i (with_term a seen))
  with_term (Write a i e) seen = put (Write a i e) (with_term e (with_term i (with_term a seen)))
  with_term (Neg t) seen = put (Neg t) (with_term t seen)
  with_term (Add t u) seen = put (Add t u) (with_term u (with_term t seen))
  with_term (Sub t u) seen = put (Sub t u) (with_term u (with_term t seen))
  with_term (Mul t u) seen = put (Mul t u) (with_term u (with_term t seen))
  with_term (Fun c x args) seen = put (Fun c x args) (with_arguments args seen)

  -- arguments behind other terms, in order, each after its own arguments
  pub with_arguments : Arguments → List Tree → List Tree
  with_arguments Over seen = seen
  with_arguments (Given x t rest) seen = with_arguments rest (with_term t seen)

-- the terms of a formula behind others, each after its arguments
abbrev pub with_formula : Assertion → List Tree → List Tree
with_formula Yes seen = seen
with_formula No seen = seen
with_formula (Eq sort t u) seen = with_term u (with_term t seen)
with_formula (Ne sort t u) seen = with_term u (with_term t seen)
with_formula (Le t u) seen = with_term u (with_term t seen)
with_formula (Lt t u) seen = with_term u (with_term t seen)
with_formula (And p q) seen = with_formula q (with_formula p seen)
with_formula (Or p q) seen = with_formula q (with_formula p seen)

-- the terms of formulas behind others, in order, each after its arguments
abbrev pub with_formulas : List Assertion → List Tree → List Tree
with_formulas [] seen = seen
with_formulas (f ∷ fs) seen = with_formulas fs (with_formula f seen)

-- all terms of formulas in order, each after its arguments and once
abbrev pub all_terms : List Assertion → List Tree
all_terms fs = with_formulas fs []
