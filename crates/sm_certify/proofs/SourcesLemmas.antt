-- The form of a source is kept for the form of a line.
use Rattle.sm_certify.proofs.Imports.{◌≡◌, ℕ, zero, suc, ◌<◌, pos, negsuc, IsTrue, List, [], ◌∷◌, length, slice_get, refl, sym, ap, ◌∙◌, subst, Option, Some, None, if◌then◌else◌, Linear, Outcome, Fits, Leaves, then_with, Tree, tree_at, Assertion, tree_sort, NumberedFormula, assertion_in, IsFormulaWithin, BranchFact, Sum, is_numeric, form_fact, difference, one_more, form_of_comparison, HaveOnePlace, IsKeptFor, IsOutcomeFor, combined_stands, Seen, assertions_in, AreFormulasWithin, comparison_by, HavePlaces, place_in, less_by}
use Rattle.sm_num.specs.declared.kind.Kind.TheVariants as kind
use Rattle.sm_num.specs.declared.kind.Kind.{Kind}
use Rattle.sm_term.specs.Assertions as plain
use Rattle.sm_term.specs.Formulas.{Yes, No, Eq, Ne, Le, Lt, And, Or}
use Rattle.sm_theory.specs.LinearTerms.{linear_of, linear_by}
use Rattle.sm_theory.proofs.LinearLater.{one_more_stands}
use Rattle.sm_theory.proofs.LinearNumbers.{linear_stands}

-- a line makes a form for which a form by numbers is kept
abbrev pub MakesFor : List Tree → Option BranchFact → Linear ℕ → Type 0
MakesFor trees made f = (g : Linear Tree) × (made ≡ Some (Sum g)) × IsKeptFor trees f g

-- a form that is computed
pub outcome_makes : (trees : List Tree) (o : Outcome (Linear ℕ)) (p : Outcome (Linear Tree)) (f : Linear ℕ) → IsOutcomeFor trees o p →
    o ≡ Fits f → MakesFor trees (form_fact p) f
outcome_makes trees (Fits h) (Fits g) f keeps e = (g, refl, subst (λ (i : Linear ℕ). IsKeptFor trees i g) (ap (form_or f) e) keeps)
  where
    form_or : Linear ℕ → Outcome (Linear ℕ) → Linear ℕ
    form_or f (Fits h) = h
    form_or f (Leaves op y z) = f
outcome_makes trees (Fits h) (Leaves op y z) f keeps e = absurd keeps
outcome_makes trees (Leaves op y z) (Fits g) f keeps e = absurd keeps
outcome_makes trees (Leaves op y z) (Leaves other v w) f keeps e = absurd cc

-- where one outcome is kept for another, it still is with 1 more on both
more_stands : (trees : List Tree) (o : Outcome (Linear ℕ)) (p : Outcome (Linear Tree)) → IsOutcomeFor trees o p →
    IsOutcomeFor trees (then_with o one_more) (then_with p one_more)
more_stands trees (Fits f) (Fits g) keeps = one_more_stands trees f g keeps
more_stands trees (Fits f) (Leaves op y z) keeps = absurd keeps
more_stands trees (Leaves op y z) (Fits g) keeps = absurd keeps
more_stands trees (Leaves op y z) (Leaves other v w) keeps = tt

-- what stands in an option is no other thing
some_form : (o p : Outcome (Linear ℕ)) → Some o ≡ Some p → o ≡ p
some_form o p e = ap (or o) e
  where
    or : Outcome (Linear ℕ) → Option (Outcome (Linear ℕ)) → Outcome (Linear ℕ)
    or o None = o
    or o (Some p) = p

module _ (b : Seen) (distinct : HaveOnePlace b.terms) (placed : HavePlaces b.terms) where
  -- a difference by numbers is kept for the difference
  less_stands : (k : Kind) (t u : ℕ) → t < length b.terms → u < length b.terms →
      IsOutcomeFor b.terms (less_by b k (tree_at b.terms t) (tree_at b.terms u)) (difference (tree_at b.terms t) (tree_at b.terms u) k)
  less_stands k t u h g =
      let place = place_in b.terms in
      let first = tree_at b.terms t in
      let second = tree_at b.terms u in
      combined_stands b.terms distinct (linear_by place first) (linear_by place second) (linear_of first) (linear_of second)
      (pos 1) (negsuc 0) k (linear_stands b.terms distinct place first (placed t h))
      (linear_stands b.terms distinct place second (placed u g))

  -- the equation of two numbers makes the form
  pub equation_makes : (t u : ℕ) (f : Linear ℕ) → t < length b.terms → u < length b.terms →
      IsTrue (is_numeric b.sorts (tree_at b.terms t)) →
      less_by b kind.Eq (tree_at b.terms t) (tree_at b.terms u) ≡ Fits f →
      MakesFor b.terms (form_of_comparison (plain.Eq (tree_sort b.sorts (tree_at b.terms t)) (tree_at b.terms t) (tree_at b.terms u))) f
  equation_makes t u f h g numeric e =
      let made = outcome_makes b.terms (less_by b kind.Eq (tree_at b.terms t) (tree_at b.terms u))
      (difference (tree_at b.terms t) (tree_at b.terms u) kind.Eq) f (less_stands kind.Eq t u h g) e in
      subst (λ c. MakesFor b.terms (if c then form_fact (difference (tree_at b.terms t) (tree_at b.terms u) kind.Eq) else None) f)
      (sym numeric) made

  -- a comparison makes the form
  comparison_makes : (c : NumberedFormula) (f : Linear ℕ) → IsFormulaWithin (length b.terms) c →
      comparison_by b (assertion_in b.sorts b.terms c) ≡ Some (Fits f) →
      MakesFor b.terms (form_of_comparison (assertion_in b.sorts b.terms c)) f
  comparison_makes Yes f within e = absurd cc
  comparison_makes No f within e = absurd cc
  comparison_makes (Eq t u) f within e = absurd cc
  comparison_makes (Ne t u) f within e = absurd cc
  comparison_makes (Le t u) f within e =
      outcome_makes b.terms (less_by b kind.Le (tree_at b.terms t) (tree_at b.terms u))
      (difference (tree_at b.terms t) (tree_at b.terms u) kind.Le) f (less_stands kind.Le t u within.0 within.1)
      (some_form _ (Fits f) e)
  comparison_makes (Lt t u) f within e =
      let first = tree_at b.terms t in
      let second = tree_at b.terms u in
      outcome_makes b.terms (then_with (less_by b kind.Le first second) one_more) (then_with (difference first second kind.Le) one_more) f
      (more_stands b.terms (less_by b kind.Le first second) (difference first second kind.Le) (less_stands kind.Le t u within.0 within.1))
      (some_form _ (Fits f) e)
  comparison_makes (And p q) f within e = absurd cc
  comparison_makes (Or p q) f within e = absurd cc

  -- a fact that compares makes the form
  pub fact_makes : (cs : List NumberedFormula) (n : ℕ) (a : Assertion) (f : Linear ℕ) → AreFormulasWithin (length b.terms) cs →
      slice_get (assertions_in b.sorts b.terms cs) n ≡ Some a → comparison_by b a ≡ Some (Fits f) →
      MakesFor b.terms (form_of_comparison a) f
  fact_makes [] n a f within e h = absurd cc
  fact_makes (c ∷ cs) zero a f within e h =
      let same : assertion_in b.sorts b.terms c ≡ a = cc in
      subst (λ (a : Assertion). MakesFor b.terms (form_of_comparison a) f) same
      (comparison_makes c f within.0 (ap (comparison_by b) same ∙ h))
  fact_makes (c ∷ cs) (suc n) a f within e h = fact_makes cs n a f within.1 e h
