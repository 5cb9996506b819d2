-- After a node, what it opened waits before the others.
use Rattle.sm_write.proofs.Imports.{◌≡◌, ℕ, suc, ◌+◌, true, Some, List, [], ◌∷◌, ◌++◌, map, refl, ap, sym, subst, ◌∙◌, arith, Sorts, Certificate, is_shallow, above_opened, opened_by, Plans, size, sizes, State, Pending, states_opened, plan_states, plans_states, AreClosed, AreReady, IsBuilt, Seen, Waits, due_for, each_waits, AreWaiting, EachKept, denied}
use Rattle.std.proofs.lemmas.List.{append_assoc, append-nil}
use Rattle.sm_plan.specs.Nodes.{Node, Opened}
use Rattle.sm_plan.specs.Plans.{At, Over, More}
use Rattle.sm_proof.specs.Passing.{Due}

-- plans that are ready wait before the others
pub opened_wait : (sorts : Sorts) (above : ℕ) (states : List State) (ps : Plans) (seen : List State) (k : ℕ) (ws : List Waits)
    (cs mid left : List Certificate) → AreReady sorts seen above k states ps cs mid →
    AreWaiting sorts (seen ++ plans_states k states ps) (k + sizes ps) ws mid left →
    AreWaiting sorts seen k (each_waits above states ps ++ ws) cs left
opened_wait sorts above [] Over seen k ws cs mid left ready others =
    subst (λ (l : List Certificate). AreWaiting sorts seen k ws l left) (sym ready)
    (subst (λ (n : ℕ). AreWaiting sorts seen n ws mid left) (let e : k + 0 ≡ k = omega arith in e)
    (subst (λ (l : List State). AreWaiting sorts l (k + 0) ws mid left) (append-nil seen) others))
opened_wait sorts above [] (More p ps) seen k ws cs mid left ready others = absurd ready
opened_wait sorts above (st ∷ states) Over seen k ws cs mid left ready others = absurd ready
opened_wait sorts above (st ∷ states) (More p ps) seen k ws cs mid left (m, first, rest) others = (
  m,
  first,
  opened_wait sorts above states ps (seen ++ plan_states k st p) (k + size p) ws m mid left rest
      (subst (λ (n : ℕ). AreWaiting sorts ((seen ++ plan_states k st p) ++ plans_states (k + size p) states ps) n ws mid left)
      (let e : k + (size p + sizes ps) ≡ (k + size p) + sizes ps = omega arith in e)
      (subst (λ (l : List State). AreWaiting sorts l (k + (size p + sizes ps)) ws mid left)
      (sym (append_assoc seen (plan_states k st p) (plans_states (k + size p) states ps))) others)),
)

-- as many wait as there are plans
pub waits_due : (above : ℕ) (states : List State) (ps : Plans) (sorts : Sorts) (seen : List State) (k : ℕ) (cs left : List Certificate) →
    AreReady sorts seen above k states ps cs left → map due_for (each_waits above states ps) ≡ map (λ (st : State). Due st above) states
waits_due above [] Over sorts seen k cs left ready = refl
waits_due above [] (More p ps) sorts seen k cs left ready = absurd ready
waits_due above (st ∷ states) Over sorts seen k cs left ready = absurd ready
waits_due above (st ∷ states) (More p ps) sorts seen k cs left (m, first, rest) =
    ap (λ (l : List Pending). Due st above ∷ l) (waits_due above states ps sorts (seen ++ plan_states k st p) (k + size p) m left rest)

-- what a node that is ready asks and opens
pub record NodeReady (sorts : Sorts) (seen : List State) (k : ℕ) (st : State) (above : ℕ) (node : Node) (ps : Plans) (ws : List Waits)
    (cs left : List Certificate) : Type 0 where
  pub opened : Opened
  pub opens : opened_by k st node ≡ Some opened
  pub few : is_shallow (above_opened node above) ≡ true
  pub kept : EachKept (IsBuilt (Seen (seen ++ st ∷ []))) node
  pub mid : List Certificate
  pub closed : AreClosed sorts (Seen (seen ++ st ∷ [])) (map (denied st.facts) opened.goals) cs mid
  pub others :
      AreWaiting sorts (seen ++ st ∷ []) (suc k) (each_waits (above_opened node above) opened.states ps ++ ws) mid left
  pub due :
      map due_for (each_waits (above_opened node above) opened.states ps)
      ≡ map (λ (next : State). Due next (above_opened node above)) opened.states

-- the first that waits takes its node
pub first_waits : (sorts : Sorts) (seen : List State) (k : ℕ) (st : State) (above : ℕ) (node : Node) (ps : Plans) (ws : List Waits)
    (cs left : List Certificate) →
    AreWaiting sorts seen k (record { state = st; above = above; plan = At node ps } ∷ ws) cs left →
    NodeReady sorts seen k st above node ps ws cs left
first_waits sorts seen k st above node ps ws cs left (m, (q, opens, few, kept, mid, closed, ready), rest) =
    let now = seen ++ st ∷ [] in
    let later = plans_states (suc k) q.states ps in
    let same : seen ++ plan_states k st (At node ps) ≡ now ++ later =
    ap (λ (l : List State). seen ++ (st ∷ plans_states (suc k) l ps)) (ap states_opened opens) ∙ sym (append_assoc seen (st ∷ []) later) in
    record {
      opened = q;
      opens = opens;
      few = few;
      kept = kept;
      mid = mid;
      closed = closed;
      others =
          opened_wait sorts (above_opened node above) q.states ps now (suc k) ws mid m left ready
          (subst (λ (n : ℕ). AreWaiting sorts (now ++ later) n ws m left)
          (let e : k + suc (sizes ps) ≡ suc k + sizes ps = omega arith in e)
          (subst (λ (l : List State). AreWaiting sorts l (k + suc (sizes ps)) ws m left) same rest));
      due = waits_due (above_opened node above) q.states ps sorts now (suc k) mid m ready;
    }
