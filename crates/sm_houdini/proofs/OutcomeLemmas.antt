-- A search comes to one outcome, and its conflict is that of the least trial that violates.
use Rattle.sm_houdini.proofs.Imports.{◌≡◌, inl, inr, ℕ, suc, Bool, true, false, if◌then◌else◌, List, [], ◌∷◌, sym, ap, ◌∙◌, subst, Parts, sort_of, task_of, Assertion, is_small, IsLeast, IsFirstViolation, Verdict, Walked, Opens, TooFar, GoesOut, OutcomeIsOne, ConflictIsLeast, Outcome, Accepted, Conflict, Open, Coefficient, goal_outcome, goals_outcome, final_outcome, kept_dues, plan_outcome, or_conflict}
use Rattle.std.proofs.Common.{Option, Some, None}
use Rattle.sm_plan.specs.Plans.{Due}
use Rattle.sm_replay.specs.Laws.{FirstViolationIsOne}
use Rattle.sm_judge.specs.Forms.{Closes}
use Rattle.sm_solve.specs.Walk as walks
use Rattle.sm_houdini.specs.Outcomes.{Steps, TooMany}
use Rattle.sm_houdini.proofs.TotalsLemmas.{different}

pub outcomes_same : FirstViolationIsOne → OutcomeIsOne
outcomes_same one t reach turns o p (inl h) (inl g) = h.1 ∙ sym g.1
outcomes_same one t reach turns o p (inl h) (inr g) = different (sym h.0 ∙ g.0)
outcomes_same one t reach turns o p (inr h) (inl g) = different (sym g.0 ∙ h.0)
outcomes_same one t reach turns o p (inr h) (inr g) =
    let same = one (task_of t) (sort_of t.declared) turns h.1.0 g.1.0 h.1.1 g.1.1 in
    h.1.2
    ∙ (ap (λ (found : Option (ℕ × Verdict)). or_conflict found (plan_outcome (walks.walk (sort_of t.declared) reach) t)) same ∙ sym g.1.2)

-- it is no conflict
abbrev IsNoConflict : {V : Type 0} → Outcome V → Type 0
IsNoConflict Accepted = Unit {0}
IsNoConflict (Conflict v) = ⊥
IsNoConflict (Open node goal) = Unit {0}
IsNoConflict (Steps node goal) = Unit {0}
IsNoConflict (Coefficient node goal op y z) = Unit {0}
IsNoConflict TooMany = Unit {0}

goal_no : {V : Type 0} (node goal : ℕ) (w : Walked) (later : Outcome V) → IsNoConflict later →
    IsNoConflict (goal_outcome node goal w later)
goal_no node goal (Closes count) later h = h
goal_no node goal (Opens facts) later h = tt
goal_no node goal TooFar later h = tt
goal_no node goal (GoesOut op y z) later h = tt

goals_no : {V : Type 0} (walk : Assertion → Walked) (node i : ℕ) (gs : List Assertion) (later : Outcome V) → IsNoConflict later →
    IsNoConflict (goals_outcome walk node i gs later)
goals_no walk node i [] later h = h
goals_no walk node i (g ∷ gs) later h =
    goal_no node i (walk g) (goals_outcome walk node (suc i) gs later) (goals_no walk node (suc i) gs later h)

module _ (V : Type 0) (walk : List Assertion → Assertion → Walked) where
  final_no : (ds : List Due) → IsNoConflict {V = V} (final_outcome walk ds)
  final_no [] = tt
  final_no (d ∷ ds) = by d.is_final (final_no ds)
    where
      by : (b : Bool) → IsNoConflict {V = V} (final_outcome walk ds) →
          IsNoConflict {V = V} (if b then goals_outcome (walk d.facts) d.node 0 d.goals (final_outcome walk ds) else final_outcome walk ds)
      by true h = goals_no (walk d.facts) d.node 0 d.goals (final_outcome walk ds) h
      by false h = h

  plan_no : (t : Parts) → IsNoConflict {V = V} (plan_outcome walk t)
  plan_no t = by (is_small t)
    where
      by : (b : Bool) → IsNoConflict {V = V} (if b then final_outcome walk (kept_dues walk t) else TooMany)
      by true = final_no (kept_dues walk t)
      by false = tt

abbrev conflict_in : {V : Type 0} → V → Outcome V → V
conflict_in v Accepted = v
conflict_in v (Conflict w) = w
conflict_in v (Open node goal) = v
conflict_in v (Steps node goal) = v
conflict_in v (Coefficient node goal op y z) = v
conflict_in v TooMany = v

pub conflict_least : ConflictIsLeast
conflict_least t reach turns found (inl h) = absurd (subst IsNoConflict (sym h.1) tt)
conflict_least t reach turns found (inr h) = by h.1.0 h.1.1 h.1.2
  where
    by : (o : Option (ℕ × Verdict)) → IsFirstViolation (task_of t) (sort_of t.declared) turns o →
        (Conflict found ≡ or_conflict o (plan_outcome (walks.walk (sort_of t.declared) reach) t)) →
        IsLeast (task_of t) (sort_of t.declared) turns found.0 found.1
    by None first e =
        absurd (subst IsNoConflict (sym e) (plan_no (ℕ × Verdict) (walks.walk (sort_of t.declared) reach) t))
    by (Some v) first e =
        let same : v ≡ found = ap (conflict_in v) (sym e) in
        subst (λ (f : ℕ × Verdict). IsLeast (task_of t) (sort_of t.declared) turns f.0 f.1) same first
