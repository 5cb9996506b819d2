-- Cited by public clauses: what the search of a task comes to.
use Rattle.std.specs.Prelude.{◌≡◌, ◌⊎◌, ℕ, suc, ℤ, Bool, true, false, if◌then◌else◌, Option, Some, None, List, [], ◌∷◌}
use Rattle.sm_syntax.specs.claim.ConflictFree.{program_of}
use Rattle.sm_syntax.specs.text.Parts.{Parts, sort_of, task_of}
use Rattle.sm_num.specs.declared.op.Op.{Op}
use Rattle.sm_term.specs.Assertions.{Assertion}
use Rattle.sm_plan.specs.Plans.{Due}
use Rattle.sm_product.specs.Sizes.{is_small}
use Rattle.sm_sided.specs.OneSided.{is_one_sided}
use Rattle.sm_replay.specs.Trials.{IsFirstViolation}
use Rattle.sm_replay.specs.declared.verdict.Verdict.{Verdict}
use Rattle.sm_solve.specs.Walk as walks
use Rattle.sm_solve.specs.declared.reach.Reach.{Reach}
use Rattle.sm_judge.specs.Forms.{Walked, Closes, Opens, TooFar, GoesOut}
use Rattle.sm_houdini.specs.Rounds.{dues_of, kept}

-- what a search comes to, where V is what is said of a violation; nodes and goals are numbered
pub data Outcome (V : Type 0) : Type 0 where
  Accepted : Outcome V
  Conflict : V → Outcome V
  Open : ℕ → ℕ → Outcome V
  Steps : ℕ → ℕ → Outcome V
  Coefficient : ℕ → ℕ → Op → ℤ → ℤ → Outcome V
  TooMany : Outcome V

-- whether a walk closes
abbrev pub is_closing : Walked → Bool
is_closing (Closes count) = true
is_closing (Opens facts) = false
is_closing TooFar = false
is_closing (GoesOut op y z) = false

-- what a goal comes to by its walk, and what comes after where it closes
abbrev pub goal_outcome : {V : Type 0} → ℕ → ℕ → Walked → Outcome V → Outcome V
goal_outcome node goal (Closes count) later = later
goal_outcome node goal (Opens facts) later = Open node goal
goal_outcome node goal TooFar later = Steps node goal
goal_outcome node goal (GoesOut op y z) later = Coefficient node goal op y z

-- the first goal of a node, counted from i on, that doesn't close, or else what comes after
abbrev pub goals_outcome : {V : Type 0} → (Assertion → Walked) → ℕ → ℕ → List Assertion →
    Outcome V → Outcome V
goals_outcome walk node i [] later = later
goals_outcome walk node i (g ∷ gs) later =
    goal_outcome node i (walk g) (goals_outcome walk node (suc i) gs later)

-- the first final goal that doesn't close; where all close, the task is accepted
abbrev pub final_outcome : {V : Type 0} → (List Assertion → Assertion → Walked) → List Due →
    Outcome V
final_outcome walk [] = Accepted
final_outcome walk (d ∷ ds) =
    let later = final_outcome walk ds in
    if d.is_final then goals_outcome (walk d.facts) d.node 0 d.goals later else later

-- the obligations under the templates that are kept, where a walk judges them
abbrev pub kept_dues : (List Assertion → Assertion → Walked) → Parts → List Due
kept_dues walk t =
    dues_of t (kept (λ (facts : List Assertion) (goal : Assertion). is_closing (walk facts goal)) t)

-- where nothing violates the task: too many nodes, obligations or facts, or what the final goals
-- come to under the templates that are kept
abbrev pub plan_outcome : {V : Type 0} → (List Assertion → Assertion → Walked) → Parts →
    Outcome V
plan_outcome walk t = if is_small t then final_outcome walk (kept_dues walk t) else TooMany

-- what a violation comes to, where there is one
abbrev pub or_conflict : {V : Type 0} → Option V → Outcome V → Outcome V
or_conflict None other = other
or_conflict (Some v) other = Conflict v

-- a search comes to this, where each walk goes so far and each run has so many turns: a one-sided
-- task is accepted, the first violation is a conflict, and otherwise the plan decides
abbrev pub IsOutcome : Parts → Reach → ℕ → Outcome (ℕ × Verdict) → Type 0
IsOutcome t reach turns o =
    let program = program_of (task_of t) in
    let sorts = sort_of t.declared in
    ((is_one_sided program ≡ true) × (o ≡ Accepted))
    ⊎ ((is_one_sided program ≡ false)
    × ((found : Option (ℕ × Verdict))
    × IsFirstViolation (task_of t) sorts turns found
    × (o ≡ or_conflict found (plan_outcome (walks.walk sorts reach) t))))
