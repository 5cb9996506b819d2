-- Cited by public clauses: rounds of dropping templates, down to those that are kept. After
-- Flanagan and Leino, "Houdini, an Annotation Assistant for ESC/Java" (FME 2001).
use Rattle.std.specs.Prelude.{ℕ, zero, suc, ◌+◌, ◌==◌, Bool, true, false, not, ◌&&◌, ◌||◌, if◌then◌else◌, Option, Some, None, Result, Ok, Err, List, [], ◌∷◌, length, slice_get}
use Rattle.std.specs.List.{list_all}
use Rattle.sm_syntax.specs.text.Parts.{Parts, task_of}
use Rattle.sm_term.specs.Assertions.{Assertion}
use Rattle.sm_plan.specs.Plans.{Due, Fault, obligations}
use Rattle.sm_sketch.specs.Choices.{Choice}
use Rattle.sm_product.specs.ProductPlans.{plan_of, full_choice}
use Rattle.sm_houdini.specs.Owners.{owner_of}

-- the obligations, none where a plan has none
abbrev pub dues_in : Result (List Due) Fault → List Due
dues_in (Err w) = []
dues_in (Ok ds) = ds

-- the obligations under a choice
abbrev pub dues_of : Parts → Choice → List Due
dues_of t choice = dues_in (obligations (task_of t) (plan_of t choice))

-- whether an owner is a site
abbrev pub is_site : Option ℕ → ℕ → Bool
is_site None s = false
is_site (Some n) s = n == s

-- whether a goal closes, where there is one
abbrev pub closes_if : (Assertion → Bool) → Option Assertion → Bool
closes_if closes None = true
closes_if closes (Some g) = closes g

-- whether each obligation of the i-th template that a site keeps closes
abbrev pub holds_at : (List Assertion → Assertion → Bool) → (Due → Option ℕ) → List Due → ℕ → ℕ →
    Bool
holds_at closes owner ds s i =
    list_all
    (λ (d : Due). not (is_site (owner d) s) || closes_if (closes d.facts) (slice_get d.goals i))
    ds

-- the numbers whose places, counted from i on, pass
abbrev pub numbers_kept : (ℕ → Bool) → ℕ → List ℕ → List ℕ
numbers_kept passes i [] = []
numbers_kept passes i (n ∷ rest) =
    let later = numbers_kept passes (suc i) rest in if passes i then n ∷ later else later

-- for each site, counted from s on, the numbers whose places pass
abbrev pub sites_kept : (ℕ → ℕ → Bool) → ℕ → Choice → Choice
sites_kept passes s [] = []
sites_kept passes s (ns ∷ rest) = numbers_kept (passes s) 0 ns ∷ sites_kept passes (suc s) rest

-- the next round: the templates all of whose obligations close under this one
abbrev pub next_round : (List Assertion → Assertion → Bool) → Parts → Choice → Choice
next_round closes t choice =
    sites_kept (holds_at closes (owner_of t) (dues_of t choice)) 0 choice

-- how many templates are chosen
abbrev pub total : Choice → ℕ
total [] = 0
total (ns ∷ rest) = length ns + total rest

-- whether two lists of numbers are the same
abbrev pub same_numbers : List ℕ → List ℕ → Bool
same_numbers [] [] = true
same_numbers [] (n ∷ ns) = false
same_numbers (m ∷ ms) [] = false
same_numbers (m ∷ ms) (n ∷ ns) = (m == n) && same_numbers ms ns

-- whether two choices are the same
abbrev pub same_choice : Choice → Choice → Bool
same_choice [] [] = true
same_choice [] (ns ∷ rest) = false
same_choice (ms ∷ rest) [] = false
same_choice (ms ∷ rest) (ns ∷ others) = same_numbers ms ns && same_choice rest others

-- the first choice that equals its next, by at most n rounds
abbrev pub settled : (Choice → Choice) → ℕ → Choice → Choice
settled next zero choice = choice
settled next (suc n) choice =
    let later = settled next n (next choice) in
    if same_choice (next choice) choice then choice else later

-- the kept choice: each round before it drops a template
abbrev pub kept : (List Assertion → Assertion → Bool) → Parts → Choice
kept closes t = settled (next_round closes t) (total (full_choice t)) (full_choice t)
