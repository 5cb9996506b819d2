-- Cited by public clauses: what the answers of the exact decision say.
use Rattle.std.specs.Prelude.{◌≡◌, ◌≤◌, ℕ, Option, Some, None, List, [], ◌∷◌}
use Rattle.sm_num.specs.Forms.{Linear, HoldsAt, IsKept}
use Rattle.sm_omega.specs.Counting.{Done, Passed, Outside, Shallow}
use Rattle.sm_omega.specs.Solving.{Values}
use Rattle.sm_omega.specs.Rules.{Answer}
use Rattle.sm_omega.specs.Exact.{exact}

-- each form holds
abbrev pub AllHold : Values → List (Linear ℕ) → Type 0
AllHold v [] = Unit {0}
AllHold v (f ∷ fs) = HoldsAt v f × AllHold v fs

-- each form is as the program keeps it
abbrev pub AllKept : List (Linear ℕ) → Type 0
AllKept [] = Unit {0}
AllKept (f ∷ fs) = IsKept f × AllKept fs

-- an answer is right: a solution is one, and where there is said to be none no whole numbers
-- satisfy the forms
abbrev pub IsRightFor : List (Linear ℕ) → Answer → Type 0
IsRightFor fs (Done c None) = (v : Values) → AllHold v fs → ⊥
IsRightFor fs (Done c (Some v)) = AllHold v fs
IsRightFor fs Passed = Unit {0}
IsRightFor fs (Outside op y z) = Unit {0}
IsRightFor fs Shallow = Unit {0}

-- the decision is right
abbrev pub ExactIsRight : Type 0
ExactIsRight = (fs : List (Linear ℕ)) (limit : ℕ) → AllKept fs → IsRightFor fs (exact fs limit)

-- where neither the count nor the range stops it, it comes to an answer
abbrev pub ExactAnswers : Type 0
ExactAnswers = (fs : List (Linear ℕ)) (limit : ℕ) → AllKept fs → exact fs limit ≡ Shallow → ⊥

-- an answer's count is within the limit
abbrev pub CountIsWithin : Type 0
CountIsWithin =
    (fs : List (Linear ℕ)) (limit c : ℕ) (answer : Option Values) → exact fs limit ≡ Done c answer →
    c ≤ limit

-- each limit that isn't below an answer's count gives this answer, so the count passes a limit
-- exactly where it is greater
abbrev pub LimitDoesNotMatter : Type 0
LimitDoesNotMatter =
    (fs : List (Linear ℕ)) (limit other c : ℕ) (answer : Option Values) →
    exact fs limit ≡ Done c answer → c ≤ other → exact fs other ≡ Done c answer
