-- What is said of why a search decides nothing. Public clauses cite it.
use Rattle.std.specs.Prelude.{◌≡◌, ◌==◌, ◌/◌, ◌%◌, ℕ, if◌then◌else◌, Option, Some, None, List, [], ◌++◌, codes, decimal, slice_get}
use Rattle.sm_syntax.specs.declared.tree.Sort.{Sort}
use Rattle.sm_syntax.specs.declared.tree.Sort.TheVariants.{Num, Arr}
use Rattle.sm_syntax.specs.text.Parts.{Parts, sort_of}
use Rattle.sm_explain.specs.Cells.{name_text}
use Rattle.sm_explain.specs.Places.{IsPlace}
use Rattle.sm_explain.specs.declared.places.Place.{Place}
use Rattle.sm_why.specs.Sites.{IsSite}
use Rattle.sm_why.specs.declared.stop.Manner.{Manner}
use Rattle.sm_why.specs.declared.stop.Manner.TheVariants.{Open, Steps, Coefficient}
use Rattle.sm_why.specs.declared.stop.Stop.{Stop}
use Rattle.sm_why.specs.declared.stop.Stop.TheVariants.{Goal, TooMany}

-- how a goal of an output isn't shown
abbrev pub manner_words : Manner → List ℕ
manner_words Open = codes "not shown for output "
manner_words Steps = codes "not shown in so many steps for output "
manner_words Coefficient = codes "not shown within 128 bits for output "

-- the words for a clause of the condition that isn't shown
unfoldable pub clause_of_a : List ℕ
clause_of_a = codes ": where A changed it, the candidate has A's value\n"

unfoldable pub clause_of_b : List ℕ
clause_of_b = codes ": where B changed it, the candidate has B's value\n"

unfoldable pub clause_of_neither : List ℕ
clause_of_neither = codes ": where base, A and B agree, the candidate has their value\n"

-- the words for a clause by its number, from 0
abbrev pub clause_words : ℕ → List ℕ
clause_words n =
    if n == 0 then clause_of_a else (if n == 1 then clause_of_b else clause_of_neither)

-- an array's clause speaks of each of its elements
abbrev pub at_elements : Option Sort → List ℕ
at_elements None = []
at_elements (Some Num) = []
at_elements (Some Arr) = codes " at each index"

-- the words for an output, where there is one
abbrev pub output_words : Parts → Option ℕ → List ℕ
output_words t None = []
output_words t (Some x) = name_text t.names x ++ at_elements (sort_of t.declared x)

-- the words for a place
abbrev pub place_words : ℕ → ℕ → List ℕ
place_words line column =
    codes "line " ++ decimal line ++ codes ", column " ++ decimal column ++ codes ": "

-- the line on a final goal: the place of a hole, and the output and the clause that it asks. Each
-- output has three goals, one for each clause
pub record IsGoalLine (text : List ℕ) (t : Parts) (manner : Manner) (goal : ℕ) (line : List ℕ)
    : Type 0 where
  pub offset : ℕ
  pub site : IsSite text t offset
  pub place : Place
  pub stands : IsPlace text offset place
  pub is : line ≡ place_words place.line place.column
      ++ (manner_words manner
      ++ (output_words t (slice_get t.outputs (goal / 3)) ++ clause_words (goal % 3)))

-- the line on a plan that is too large
unfoldable pub too_large : List ℕ
too_large = codes "the plan has too many nodes, goals or facts\n"

-- the line on why a search decides nothing
abbrev pub IsReason : List ℕ → Parts → Stop → List ℕ → Type 0
IsReason text t (Goal manner goal) line = IsGoalLine text t manner goal line
IsReason text t TooMany line = line ≡ too_large
