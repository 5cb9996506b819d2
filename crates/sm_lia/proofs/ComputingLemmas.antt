-- Forms that are computed over numbers, by the forms over terms.
use Rattle.sm_lia.proofs.Imports.{ℕ, Option, Some, None, List, [], Result, Ok, Err, ap, subst, Linear, IsKept, Outcome, Fits, Leaves, then_with, computed, Returns, NumError, Tree, one_more, IsKeptFor, IsOutcomeFor, BranchFact, followed, one_more_stands, ReturnsFor}
use Rattle.sm_num.specs.declared.op.Op.TheVariants as op
use Rattle.sm_num.specs.declared.error.NumError.TheVariants.{Beyond, Memory}
use Rattle.sm_theory.specs.Sides.{OptionStands}

-- the form that fits, or another where none does
form_or : Linear ℕ → Outcome (Linear ℕ) → Linear ℕ
form_or f (Fits g) = g
form_or f (Leaves o y z) = f

-- a call that gives the form by numbers gives it for the form over terms
pub returned_for : (trees : List Tree) (o : Outcome (Linear ℕ)) (p : Outcome (Linear Tree)) (r : Result (Linear ℕ) NumError) →
    IsOutcomeFor trees o p → Returns o r → ReturnsFor trees p r
unfolding form_or
returned_for trees (Fits f) (Fits g) (Ok h) keeps e = subst (λ (i : Linear ℕ). IsKeptFor trees i g) (ap (form_or f) e) keeps
returned_for trees (Fits f) (Fits g) (Err (Beyond o y z)) keeps e = absurd cc
returned_for trees (Fits f) (Fits g) (Err Memory) keeps e = tt
returned_for trees (Fits f) (Leaves o y z) r keeps e = absurd keeps
returned_for trees (Leaves o y z) (Fits g) r keeps e = absurd keeps
returned_for trees (Leaves o y z) (Leaves other v w) (Ok h) keeps e = absurd cc
returned_for trees (Leaves o y z) (Leaves other v w) (Err d) keeps e = tt

-- 1 more of what was computed
pub then_one_more : (trees : List Tree) (p : Outcome (Linear Tree)) (f : Linear ℕ) (r : Result (Linear ℕ) NumError) →
    ReturnsFor trees p (Ok f) → (IsKept f → Returns (one_more f) r) → ReturnsFor trees (then_with p one_more) r
then_one_more trees (Fits g) f r keeps returns =
    returned_for trees (one_more f) (one_more g) r (one_more_stands trees f g keeps) (returns keeps.kept)
then_one_more trees (Leaves o y z) f r keeps returns = absurd keeps

-- what follows a form that stands for another
pub followed_form : (trees : List Tree) (f : Linear ℕ) (o : Option (Linear Tree)) (next : Linear Tree → Option BranchFact)
    (P : Option BranchFact → Type 0) → OptionStands (IsKeptFor trees) (Some f) o →
    ((g : Linear Tree) → IsKeptFor trees f g → P (next g)) → P (followed o next)
followed_form trees f (Some g) next P stands each = each g stands
followed_form trees f None next P stands each = absurd stands
