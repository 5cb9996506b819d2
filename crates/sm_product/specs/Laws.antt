-- Cited by public clauses: laws of the plans of products, each for all tasks and choices.
use Rattle.std.specs.Prelude.{◌≡◌, ◌↔◌, ℕ, suc, true, false, Some, None, Ok, List, [], ◌∷◌, slice_get}
use Rattle.sm_syntax.specs.claim.Fill.{filling}
use Rattle.sm_syntax.specs.claim.ConflictFree.{Copy}
use Rattle.sm_syntax.specs.text.Conditions.{first_refusal}
use Rattle.sm_syntax.specs.text.Parts.{Parts, task_of}
use Rattle.sm_term.specs.Assertions.{Assertion, conj}
use Rattle.sm_plan.specs.Limits.{is_kept, is_shallow}
use Rattle.sm_plan.specs.Plans.{Due, branches, IsFresh, obligations}
use Rattle.sm_moves.specs.CodeShapes.{has_hole}
use Rattle.sm_sketch.specs.Choices.{Choice, chosen_at, picked, kept_by}
use Rattle.sm_sketch.specs.Sketches.{sites_of}
use Rattle.sm_product.specs.ProductPlans.{plan_of}
use Rattle.sm_product.specs.Products.{sketch_of}

-- no filling of a task has a hole
abbrev pub HaveNoHole : Parts → Type 0
HaveNoHole t = (c : Copy) (h : ℕ) → has_hole (filling (t.fillings c) h) ≡ false

-- the fillings of a task that meets the conditions have no hole
abbrev pub ValidHasNoHole : Type 0
ValidHasNoHole = (t : Parts) → first_refusal t ≡ None → HaveNoHole t

-- the formulas that sites keep, numbered from s on, are within their limits
abbrev pub AreKept : (ℕ → List Assertion → Assertion) → ℕ → List (List Assertion) → Type 0
AreKept keep s [] = Unit {0}
AreKept keep s (ts ∷ rest) = (is_kept (keep s ts) ≡ true) × AreKept keep (suc s) rest

-- the plan of a choice is fresh
abbrev pub ProductIsFresh : Type 0
ProductIsFresh = (t : Parts) (choice : Choice) → IsFresh 0 (plan_of t choice)

-- where no filling has a hole, the plan of a choice has obligations exactly where it is shallow and
-- the formulas that it keeps are within their limits
abbrev pub ProductExpands : Type 0
ProductExpands =
    (t : Parts) (choice : Choice) → HaveNoHole t →
    ((ds : List Due) × (obligations (task_of t) (plan_of t choice) ≡ Ok ds))
    ↔ ((is_shallow (branches (plan_of t choice)) ≡ true)
    × AreKept (kept_by choice) 0 (sites_of (sketch_of t)))

-- the parts of what a site keeps are the templates that are chosen there
abbrev pub KeepsChosen : Type 0
KeepsChosen =
    (t : Parts) (choice : Choice) (s : ℕ) (ts : List Assertion) →
    slice_get (sites_of (sketch_of t)) s ≡ Some ts →
    conj (kept_by choice s ts) ≡ picked ts (chosen_at choice s)
