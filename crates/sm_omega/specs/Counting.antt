-- Cited by public clauses: how a decision counts what it computes, and how forms enter the list
-- that it decides. A form is made tight as it enters.
use Rattle.std.specs.Prelude.{ℕ, suc, nat_lt, ℤ, if◌then◌else◌, Option, Some, None, List, [], ◌∷◌}
use Rattle.sm_num.specs.Forms.{Linear}
use Rattle.sm_num.specs.Combining.{Outcome, Fits, Leaves}
use Rattle.sm_num.specs.declared.op.Op.{Op}
use Rattle.sm_num.specs.Tightening.{has_no_part, tightened, is_contradictory}

-- what a decision comes to
pub data Decision (A : Type 0) : Type 0 where
  -- an answer, with the count up to it
  Done : ℕ → A → Decision A
  -- the count would pass its limit
  Passed : Decision A
  -- an operation, with its operands, leaves the range of forms
  Outside : Op → ℤ → ℤ → Decision A
  -- the depth was not enough, which never happens
  Shallow : Decision A

-- goes on from an answer, at its count
abbrev pub go_on : {A B : Type 0} → Decision A → (ℕ → A → Decision B) → Decision B
go_on (Done c a) next = next c a
go_on Passed next = Passed
go_on (Outside op y z) next = Outside op y z
go_on Shallow next = Shallow

-- goes on with a result that fits
abbrev pub with_result : {A B : Type 0} → Outcome A → (A → Decision B) → Decision B
with_result (Fits a) next = next a
with_result (Leaves op y z) next = Outside op y z

-- counts 1 before something is computed
abbrev pub counted : {A : Type 0} → ℕ → ℕ → (ℕ → Decision A) → Decision A
counted limit c next = if nat_lt c limit then next (suc c) else Passed

-- what enters a list
pub data Item : Type 0 where
  -- a form that stood in a list, and is tight
  Stay : Linear ℕ → Item
  -- a form that is given
  Enter : Linear ℕ → Item
  -- a form that is computed, which counts 1
  Count : Outcome (Linear ℕ) → Item

-- a list of forms with the count, or no list, since a contradiction was met
abbrev pub Entered : Type 0
Entered = Decision (Option (List (Linear ℕ)))

-- a list with a form in front, where there is a list
abbrev pub led : Linear ℕ → Entered → Entered
led f (Done c None) = Done c None
led f (Done c (Some fs)) = Done c (Some (f ∷ fs))
led f Passed = Passed
led f (Outside op y z) = Outside op y z
led f Shallow = Shallow

-- a tight form enters in front of what enters behind it: a contradiction ends the list, and a form
-- without parts that holds is left out
abbrev pub entering : ℕ → Linear ℕ → Entered → Entered
entering c f rest =
    if is_contradictory f then Done c None else if has_no_part f.parts then rest else led f rest

-- the list of all that enters, from the first on; what stands behind a contradiction isn't computed
abbrev pub entered : ℕ → List Item → ℕ → Entered
entered limit [] c = Done c (Some [])
entered limit (Stay f ∷ items) c = led f (entered limit items c)
entered limit (Enter f ∷ items) c = entering c (tightened f) (entered limit items c)
entered limit (Count outcome ∷ items) c =
    counted limit c (λ (n : ℕ).
    with_result outcome (λ (f : Linear ℕ). entering n (tightened f) (entered limit items n)))
