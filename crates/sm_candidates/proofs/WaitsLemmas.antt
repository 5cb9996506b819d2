-- What waits, over a table that widens, and with more behind it.
use Rattle.sm_candidates.proofs.Imports.{◌≡◌, List, [], ◌∷◌, ◌++◌, map, drop, get_or, sym, ap, subst, Sorts, TableValue, trees_in, sorts_in, IsSuccessorReady, AreSuccessorsReady, NumberedPlan, NumberedPlans, Over, More, list_of, IsPlanReady, ArePlansReady, numbered_at, plan_ready, Waiting, IsPlaceReady, ArePlacesReady, IsWaitingReady, AreWaitingReady}
use Rattle.sm_term.specs.TableLaws.{ExtendsTable}
use Rattle.sm_term.specs.Terms.{Tree}
use Rattle.sm_plan.specs.declared.opening.Successor.{Successor}
use Rattle.sm_plan.proofs.TablesWiden.{state_ready}
use Rattle.sm_expand.specs.declared.cursor.Cursor.{Cursor}

-- what waits stays ready while the table widens
pub one_stays : (v w : TableValue) → ExtendsTable v w → (x : Waiting) → IsWaitingReady v x → IsWaitingReady w x
one_stays v w wider x r = record {
  state = state_ready v w wider x.state r.state;
  place = plan_ready v w wider (numbered_at x.cursor) r.place;
}

pub all_stay : (v w : TableValue) → ExtendsTable v w → (xs : List Waiting) → AreWaitingReady v xs → AreWaitingReady w xs
all_stay v w wider [] r = tt
all_stay v w wider (x ∷ xs) r = (one_stays v w wider x r.0, all_stay v w wider xs r.1)

-- one more waits
pub with_one : (v : TableValue) (xs : List Waiting) (x : Waiting) → AreWaitingReady v xs → IsWaitingReady v x → AreWaitingReady v (xs ++ x ∷ [])
with_one v [] x r one = (one, tt)
with_one v (y ∷ xs) x r one = (r.0, with_one v xs x r.1 one)

-- the last of what waits, and those before it
pub without_last : (v : TableValue) (xs : List Waiting) (x : Waiting) → AreWaitingReady v (xs ++ x ∷ []) → AreWaitingReady v xs × IsWaitingReady v x
without_last v [] x r = (tt, r.0)
without_last v (y ∷ xs) x r = let rest = without_last v xs x r.1 in ((r.0, rest.0), rest.1)

-- the last of states that follow, and those before it
pub last_state : (sorts : Sorts) (trees : List Tree) (xs : List Successor) (x : Successor) → AreSuccessorsReady sorts trees (xs ++ x ∷ []) →
    AreSuccessorsReady sorts trees xs × IsSuccessorReady sorts trees x
last_state sorts trees [] x r = (tt, r.0)
last_state sorts trees (y ∷ xs) x r = let rest = last_state sorts trees xs x r.1 in ((r.0, rest.0), rest.1)

-- the last of places, and those before it
pub last_place : (v : TableValue) (cs : List Cursor) (c : Cursor) → ArePlacesReady v (cs ++ c ∷ []) → ArePlacesReady v cs × IsPlaceReady v c
last_place v [] c r = (tt, r.0)
last_place v (d ∷ cs) c r = let rest = last_place v cs c r.1 in ((r.0, rest.0), rest.1)

-- places of plans that are ready
pub places_of : (v : TableValue) (cs : List Cursor) (ps : NumberedPlans) → map numbered_at cs ≡ list_of ps →
    ArePlansReady (sorts_in v) (trees_in v) ps → ArePlacesReady v cs
places_of v [] ps e r = tt
places_of v (c ∷ cs) Over e r = absurd cc
places_of v (c ∷ cs) (More p ps) e r =
    let first : numbered_at c ≡ p = ap (λ (qs : List NumberedPlan). get_or qs 0 p) e in
    let rest : map numbered_at cs ≡ list_of ps = ap (drop 1) e in
    (subst (IsPlanReady (sorts_in v) (trees_in v)) (sym first) r.0, places_of v cs ps rest r.1)
