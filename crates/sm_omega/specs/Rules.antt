-- Cited by public clauses: how the rules of the Omega test go on with lists of forms, after Pugh,
-- "A practical algorithm for exact array dependence analysis" (CACM 35, 1992). A rule makes a list
-- of forms into others, and a solution of those into one of the list.
use Rattle.std.specs.Prelude.{ℕ, ℤ, Option, Some, None, List}
use Rattle.sm_num.specs.Forms.{Linear}
use Rattle.sm_num.specs.Combining.{Outcome}
use Rattle.sm_omega.specs.Counting.{Decision, Done, go_on, with_result, Item, entered}
use Rattle.sm_omega.specs.Solving.{Values, put}

-- an answer: a solution, or none, since there is none
abbrev pub Answer : Type 0
Answer = Decision (Option Values)

-- what decides a list of tight forms, at a count; the number is above those of all variables
abbrev pub Solver : Type 0
Solver = ℕ → List (Linear ℕ) → ℕ → Answer

-- decides a list, where there is one
abbrev pub or_refuted :
    (List (Linear ℕ) → ℕ → Answer) → ℕ → Option (List (Linear ℕ)) → Answer
or_refuted solve c None = Done c None
or_refuted solve c (Some fs) = solve fs c

-- decides what enters, by what decides a list
abbrev pub solved : ℕ → (List (Linear ℕ) → ℕ → Answer) → List Item → ℕ → Answer
solved limit solve items c = go_on (entered limit items c) (or_refuted solve)

-- a solution with a value more, where there is a solution
abbrev pub with_value : ℕ → (Values → Outcome ℤ) → ℕ → Option Values → Answer
with_value t value c None = Done c None
with_value t value c (Some v) =
    with_result (value v) (λ (z : ℤ). Done c (Some (put t z v)))

-- gives a variable its value, where the rest has a solution
abbrev pub giving : ℕ → (Values → Outcome ℤ) → Answer → Answer
giving t value answer = go_on answer (with_value t value)

-- a solution, or what comes of going on where there is none
abbrev pub or_next : (ℕ → Answer) → ℕ → Option Values → Answer
or_next next c None = next c
or_next next c (Some v) = Done c (Some v)

-- goes on where there is no solution
abbrev pub or_else : Answer → (ℕ → Answer) → Answer
or_else answer next = go_on answer (or_next next)
