-- Cited by public clauses: what a state claims of runs, and which new values it names.
use Rattle.std.specs.Prelude.{◌≡◌, ℕ, Some, List, [], ◌∷◌}
use Rattle.sm_syntax.specs.claim.Stores.{Store}
use Rattle.sm_syntax.specs.claim.Meaning.{run}
use Rattle.sm_syntax.specs.claim.ConflictFree.{Copy}
use Rattle.sm_term.specs.Structures.{Structure, with_slots}
use Rattle.sm_term.specs.Assertions.{AllHold}
use Rattle.sm_term.specs.Symbolic.{store_meant}
use Rattle.sm_term.specs.Fresh.{IsBelow, AreFormsBelow}
use Rattle.sm_plan.specs.States.{State}

-- in each structure in which the facts hold and from whose stores all rests end, the target holds
-- of the ends
abbrev pub IsSound : State → Type 0
IsSound st =
    (m : Structure) (end : Copy → Store) →
    AllHold m st.facts →
    ((c : Copy) → run m.bound (st.rest c) (store_meant m (st.stores c)) ≡ Some (end c)) →
    AllHold (with_slots m end) st.target

-- each state of a list is sound
abbrev pub AreSound : List State → Type 0
AreSound [] = Unit {0}
AreSound (st ∷ states) = IsSound st × AreSound states

-- a state names no new value of node k or of a later one
pub record IsStateBelow (k : ℕ) (st : State) : Type 0 where
  pub stores : (c : Copy) (x : ℕ) → IsBelow k (st.stores c x)
  pub facts : AreFormsBelow k st.facts
  pub target : AreFormsBelow k st.target

-- the states of a list name no new value of node k or of a later one
abbrev pub AreStatesBelow : ℕ → List State → Type 0
AreStatesBelow k [] = Unit {0}
AreStatesBelow k (st ∷ states) = IsStateBelow k st × AreStatesBelow k states
