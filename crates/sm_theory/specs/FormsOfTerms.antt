-- Private: the linear forms of the terms under a term, while they are computed part by part.
use Rattle.std.specs.Prelude.{◌≡◌, ◌<◌, ◌+◌, ℕ, zero, suc, Option, Some, None, is_some, if◌then◌else◌, List, [], ◌∷◌}
use Rattle.sm_num.specs.Forms.{Linear}
use Rattle.sm_term.specs.Terms.{Tree}
use Rattle.sm_term.specs.Tables.{tree_at}
use Rattle.sm_theory.specs.declared.linear.Found.{Found}
use Rattle.sm_theory.specs.declared.linear.Found.TheVariants.{Form, Part}
use Rattle.sm_theory.specs.LinearTerms.{linear_of}
use Rattle.sm_theory.specs.Standing.{IsKeptFor}

-- each of these is kept for the form of the term with its number
abbrev pub AreFormsOf : List Tree → (ℕ → Option (Linear ℕ)) → Type 0
AreFormsOf trees forms =
    (n : ℕ) (f : Linear ℕ) → forms n ≡ Some f → IsKeptFor trees f (linear_of (tree_at trees n))

-- a form of term n, or a part of it that has none
abbrev pub IsFound : List Tree → (ℕ → Option (Linear ℕ)) → ℕ → Found → Type 0
IsFound trees forms n (Form f) = IsKeptFor trees f (linear_of (tree_at trees n))
IsFound trees forms n (Part p) = (p < n) × (forms p ≡ None)

-- numbers that descend from one to another
abbrev pub Descends : ℕ → List ℕ → ℕ → Type 0
Descends from [] to = to < from
Descends from (n ∷ ns) to = (n < from) × Descends n ns to

-- the way from t down to a number
abbrev pub IsWay : ℕ → List ℕ → ℕ → Type 0
IsWay t [] next = next ≡ t
IsWay t (n ∷ ns) next = (n ≡ t) × Descends n ns next

-- no number of the way has a form
abbrev pub AreOpen : (ℕ → Option (Linear ℕ)) → List ℕ → Type 0
AreOpen forms [] = Unit {0}
AreOpen forms (n ∷ ns) = (forms n ≡ None) × AreOpen forms ns

-- how many numbers below a bound have no form
abbrev pub missing_below : (ℕ → Option (Linear ℕ)) → ℕ → ℕ
missing_below forms zero = 0
missing_below forms (suc n) = (if is_some (forms n) then 0 else 1) + missing_below forms n
