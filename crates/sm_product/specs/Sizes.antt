-- Cited by public clauses: how large the plan of a task may be with all templates chosen.
use Rattle.std.specs.Prelude.{ℕ, ◌+◌, nat_le, Bool, false, ◌&&◌, Result, Ok, Err, List, [], ◌∷◌, length}
use Rattle.sm_syntax.specs.text.Parts.{Parts, task_of}
use Rattle.sm_plan.specs.Plans.{size, Due, Fault, obligations}
use Rattle.sm_product.specs.ProductPlans.{plan_of, full_choice}

-- how many goals nodes have
abbrev pub goals_in : List Due → ℕ
goals_in [] = 0
goals_in (d ∷ rest) = length d.goals + goals_in rest

-- how many facts they have, those of each node once
abbrev pub facts_in : List Due → ℕ
facts_in [] = 0
facts_in (d ∷ rest) = length d.facts + facts_in rest

-- at most 200,000 nodes and obligations, and at most 10,000,000 facts of nodes with goals
unfoldable pub is_within : ℕ → Result (List Due) Fault → Bool
is_within nodes (Err w) = false
is_within nodes (Ok ds) =
    nat_le (nodes + goals_in ds) 200000 && nat_le (facts_in ds) 10000000

-- the plan of all templates has obligations, and is within the limits; where it isn't, there are
-- too many
abbrev pub is_small : Parts → Bool
is_small t =
    let p = plan_of t (full_choice t) in is_within (size p) (obligations (task_of t) p)
