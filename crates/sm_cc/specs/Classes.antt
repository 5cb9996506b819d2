-- Cited by public clauses: which terms of a list are equal by what is given, and which are known
-- apart.
use Rattle.std.specs.Prelude.{ℤ, IsTrue, Bool, true, false, ◌&&◌, ◌||◌, not, List, [], ◌∷◌, Option, Some, None}
use Rattle.std.specs.List.{list_any}
use Rattle.std.specs.Ordering.{int_eq}
use Rattle.sm_syntax.specs.text.Sorts.{Sorts}
use Rattle.sm_term.specs.Terms.{Tree, Read}
use Rattle.sm_term.specs.Assertions.{Assertion}
use Rattle.sm_term.specs.SameTerms.{same_tree}
use Rattle.sm_term.specs.Heads.{arguments_of, same_head}
use Rattle.sm_theory.specs.Lines.{equal_sides, unequal_sides}
use Rattle.sm_theory.specs.Equality.{says_equal}
use Rattle.sm_theory.specs.Elements.{Written, written_in, read_in}
use Rattle.sm_theory.specs.Arithmetic.{compared_forms}
use Rattle.sm_theory.specs.TermsOfFormulas.{is_among}
use Rattle.sm_pairs.specs.Pairs.{Pairs}

-- what classes are made of: the terms, and the equations and contraries that are given
pub record Setting : Type 0 where
  pub sorts : Sorts
  pub terms : List Tree
  pub given : List Assertion

-- whether it is given that two terms are equal
abbrev pub given_equal : Setting → Tree → Tree → Bool
given_equal s t u = list_any (λ f. says_equal (equal_sides f) t u) s.given

-- whether it is given that they aren't
abbrev pub given_unequal : Setting → Tree → Tree → Bool
given_unequal s t u = list_any (λ f. says_equal (unequal_sides f) t u) s.given

-- whether two terms can't be equal whatever the classes are: a contrary is given, or their linear
-- forms differ in the constant alone
abbrev pub differ : Setting → Tree → Tree → Bool
differ s t u =
    given_unequal s t u
    || (given_unequal s u t || compared_forms s.sorts t u (λ (y z : ℤ). not (int_eq y z)))

-- whether two terms are known apart: terms that equal them differ
abbrev pub are_apart : Setting → Pairs → Tree → Tree → Bool
are_apart s equal t u =
    list_any (λ p. equal p t && list_any (λ q. equal q u && differ s p q) s.terms) s.terms

-- whether two lists are equal term by term
abbrev pub equal_lists : Pairs → List Tree → List Tree → Bool
equal_lists equal [] [] = true
equal_lists equal (t ∷ ts) (u ∷ us) = equal t u && equal_lists equal ts us
equal_lists equal ts us = false

-- whether something is there and passes a test
abbrev pub if_there : {T : Type 0} → Option T → (T → Bool) → Bool
if_there None test = false
if_there (Some t) test = test t

-- whether a test is passed by the array that was written before an element of it is read, with the
-- index at which it is read
abbrev pub reads_written : Tree → (Written → Tree → Bool) → Bool
reads_written t test =
    if_there (read_in t) (λ (r : Tree × Tree).
    if_there (written_in r.0) (λ (w : Written). test w r.1))

-- whether terms are equal by one rule, where some are already: by what is given, by one linear form,
-- by equal arguments, and an element that is read by what was written there or stood there before
abbrev pub brings : Setting → Pairs → Tree → Tree → Bool
brings s equal t u =
    given_equal s t u
    || (compared_forms s.sorts t u int_eq
    || ((same_head t u && equal_lists equal (arguments_of t) (arguments_of u))
    || (reads_written t (λ w j. equal w.index j && same_tree u w.element)
    || reads_written t (λ w j. are_apart s equal w.index j && same_tree u (Read w.before j)))))

-- pairs that are closed: equality is reflexive, symmetric and transitive, and has what the rules bring
pub record AreClosed (s : Setting) (equal : Pairs) : Type 0 where
  pub each : (t : Tree) → IsTrue (is_among s.terms t) → IsTrue (equal t t)
  pub turned : (t u : Tree) → IsTrue (equal t u) → IsTrue (equal u t)
  pub joined : (t u w : Tree) → IsTrue (equal t u) → IsTrue (equal u w) → IsTrue (equal t w)
  pub brought :
      (t u : Tree) → IsTrue (is_among s.terms t) → IsTrue (is_among s.terms u) →
      IsTrue (brings s equal t u) → IsTrue (equal t u)

-- two terms are in one class: each closed set of pairs has them
abbrev pub Same : Setting → Tree → Tree → Type 0
Same s t u = (equal : Pairs) → AreClosed s equal → IsTrue (equal t u)

-- two terms are known apart by the classes
abbrev pub Apart : Setting → Tree → Tree → Type 0
Apart s t u = (equal : Pairs) → AreClosed s equal → IsTrue (are_apart s equal t u)
