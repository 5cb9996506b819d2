-- What forms and items are on their way through a decision, and what they say of values.
use Rattle.sm_omega.proofs.Imports.{◌≡◌, ◌<◌, ℕ, false, Some, None, List, [], ◌∷◌, Linear, HoldsAt, IsKept, Fits, has_no_part, AreAmong, Gives, Done, Passed, Outside, Shallow, Item, Stay, Enter, Count, Values, Answer, Solver, AllHold}

-- something is so of each
abbrev pub EachOf : {A : Type 0} → (A → Type 0) → List A → Type 0
EachOf P [] = Unit {0}
EachOf P (x ∷ xs) = P x × EachOf P xs

-- a form as the program keeps it, whose variables are below a number
pub record IsGood (s : ℕ) (f : Linear ℕ) : Type 0 where
  pub kept : IsKept f
  pub below : AreAmong (λ (a : ℕ). a < s) f.parts

-- a form of a list: it has parts, too
pub record IsListed (s : ℕ) (f : Linear ℕ) : Type 0 where
  pub good : IsGood s f
  pub some : has_no_part f.parts ≡ false

-- each form of a list is
abbrev pub AreListed : ℕ → List (Linear ℕ) → Type 0
AreListed s fs = EachOf (IsListed s) fs

-- an item that may enter
abbrev pub IsGoodItem : ℕ → Item → Type 0
IsGoodItem s (Stay f) = IsListed s f
IsGoodItem s (Enter f) = IsGood s f
IsGoodItem s (Count outcome) = Gives (IsGood s) outcome

-- each item may
abbrev pub AreGoodItems : ℕ → List Item → Type 0
AreGoodItems s items = EachOf (IsGoodItem s) items

-- an item's form holds, if there is one
abbrev pub ItemHolds : Values → Item → Type 0
ItemHolds v (Stay f) = HoldsAt v f
ItemHolds v (Enter f) = HoldsAt v f
ItemHolds v (Count outcome) = Gives (HoldsAt v) outcome

-- each item's does
abbrev pub ItemsHold : Values → List Item → Type 0
ItemsHold v items = EachOf (ItemHolds v) items

-- what is computed for an item fits
abbrev pub Fitting : Item → Type 0
Fitting (Stay f) = Unit {0}
Fitting (Enter f) = Unit {0}
Fitting (Count outcome) = (h : Linear ℕ) × (outcome ≡ Fits h)

-- an answer is right of what values are to meet
abbrev pub Decides : (Values → Type 0) → Answer → Type 0
Decides Meets (Done c None) = (v : Values) → Meets v → ⊥
Decides Meets (Done c (Some v)) = Meets v
Decides Meets Passed = Unit {0}
Decides Meets (Outside op y z) = Unit {0}
Decides Meets Shallow = Unit {0}

-- a solver is right of each list whose variables are below its number
abbrev pub Serves : Solver → Type 0
Serves solve =
    (s : ℕ) (fs : List (Linear ℕ)) (c : ℕ) → AreListed s fs → Decides (λ (v : Values). AllHold v fs) (solve s fs c)
