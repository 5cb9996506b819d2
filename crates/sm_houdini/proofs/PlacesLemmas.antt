-- A list that stands in a longer one from a place on. A plan that has obligations has a state for each node.
use Rattle.sm_houdini.proofs.Imports.{◌≡◌, ℕ, suc, ◌+◌, ◌==◌, if◌then◌else◌, List, [], ◌∷◌, ◌++◌, length, refl, ap, ◌∙◌, arith, length-append, Node, Opened, opened_by, rule_of, Plans, size, sizes, count, Fault, Wrong, due, joined, expand, expand_all, State, states_opened, plan_states, plans_states, get_in_first, get_in_second, opened_is, joined_is, passed}
use Rattle.std.proofs.Common.{Option, Some, Result, Ok, Err, slice_get}
use Rattle.sm_plan.specs.Plans.{Plan, At, Over, More, Due}

module _ {X : Type 0} (all : List X) where
  -- a list stands in the longer one from a place on
  abbrev pub IsAt : ℕ → List X → Type 0
  IsAt k xs = (i : ℕ) (x : X) → slice_get xs i ≡ Some x → slice_get all (k + i) ≡ Some x

  pub at_first : (k : ℕ) (x : X) (xs : List X) → IsAt k (x ∷ xs) → slice_get all k ≡ Some x
  at_first k x xs h = let e : k ≡ k + 0 = omega arith in ap (slice_get all) e ∙ h 0 x refl

  pub at_rest : (k : ℕ) (x : X) (xs : List X) → IsAt k (x ∷ xs) → IsAt (suc k) xs
  at_rest k x xs h i y e = let same : suc k + i ≡ k + suc i = omega arith in ap (slice_get all) same ∙ h (suc i) y e

  pub at_left : (k : ℕ) (xs ys : List X) → IsAt k (xs ++ ys) → IsAt k xs
  at_left k xs ys h i x e = h i x (get_in_first xs ys i x e)

  pub at_right : (k n : ℕ) (xs ys : List X) → n ≡ length xs → IsAt k (xs ++ ys) → IsAt (k + n) ys
  at_right k n xs ys len h i x e =
      let same : k + n + i ≡ k + (length xs + i) = omega (arith, len) in
      ap (slice_get all) same ∙ h (length xs + i) x (get_in_second xs ys i ∙ e)

  -- it stands in itself from the start on
  pub at_start : IsAt 0 all
  at_start i x e = let same : 0 + i ≡ i = omega arith in ap (slice_get all) same ∙ e

pub dues_same : (x y : List Due) → (let r : Result (List Due) Fault = Ok x in r) ≡ Ok y → x ≡ y
dues_same x y h = ap list_in h
  where
    list_in : Result (List Due) Fault → List Due
    list_in (Ok ds) = ds
    list_in (Err w) = []

-- the first node of a plan that has obligations, and what they are
pub record PlanParts (node : Node) (ps : Plans) (k : ℕ) (st : State) (ds : List Due) : Type 0 where
  pub q : Opened
  pub later : List Due
  pub opens : opened_by k st node ≡ Some q
  pub goes_on : expand_all (Wrong k (rule_of node)) (suc k) q.states ps ≡ Ok later
  pub whole : due k st node q.goals ++ later ≡ ds

pub plan_parts : (node : Node) (ps : Plans) (k : ℕ) (st : State) (ds : List Due) → expand k st (At node ps) ≡ Ok ds →
    PlanParts node ps k st ds
plan_parts node ps k st ds e =
    let w = Wrong k (rule_of node) in
    let o = opened_is (opened_by k st node) w
    (λ (q : Opened). if count ps == length q.states then joined (Ok (due k st node q.goals)) (expand_all w (suc k) q.states ps)
    else Err w) ds e in
    let parts = joined_is (Ok (due k st node o.0.goals)) (expand_all w (suc k) o.0.states ps) ds
    (passed (count ps == length o.0.states) _ w ds o.2) in
    record {
      q = o.0;
      later = parts.1;
      opens = o.1;
      goes_on = parts.3;
      whole = ap (λ (es : List Due). es ++ parts.1) (dues_same (due k st node o.0.goals) parts.0 parts.2) ∙ parts.4;
    }

mutual
  pub states_length : (p : Plan) (k : ℕ) (st : State) (ds : List Due) → expand k st p ≡ Ok ds → length (plan_states k st p) ≡ size p
  states_length (At node ps) k st ds e =
      let p = plan_parts node ps k st ds e in
      ap suc
      (ap (λ (o : Option Opened). length (plans_states (suc k) (states_opened o) ps)) p.opens
      ∙ all_length ps (Wrong k (rule_of node)) (suc k) p.q.states p.later p.goes_on)

  all_length : (ps : Plans) (w : Fault) (k : ℕ) (states : List State) (ds : List Due) → expand_all w k states ps ≡ Ok ds →
      length (plans_states k states ps) ≡ sizes ps
  all_length Over w k [] ds e = refl
  all_length Over w k (st ∷ states) ds e = absurd cc
  all_length (More p ps) w k [] ds e = absurd cc
  all_length (More p ps) w k (st ∷ states) ds e =
      let parts = joined_is (expand k st p) (expand_all w (k + size p) states ps) ds e in
      length-append (plan_states k st p) (plans_states (k + size p) states ps)
      ∙ (λ i. states_length p k st parts.0 parts.2 i + all_length ps w (k + size p) states parts.1 parts.3 i)
