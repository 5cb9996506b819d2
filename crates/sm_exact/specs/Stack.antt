-- Private: what waits for the answer of the list at hand.
use Rattle.std.specs.Prelude.{◌≡◌, ℕ, ℤ, pos, Option, Some, None, List, [], ◌∷◌, drop}
use Rattle.sm_num.specs.Forms.{Linear}
use Rattle.sm_num.specs.Combining.{Outcome}
use Rattle.sm_omega.specs.Counting.{Done, go_on}
use Rattle.sm_omega.specs.Solving.{Values, lower_bounds, upper_bounds}
use Rattle.sm_omega.specs.Rules.{Answer, or_refuted, giving, or_else}
use Rattle.sm_omega.specs.Equalities.{value_by}
use Rattle.sm_omega.specs.Inequalities.{greatest_bound, least_bound, greatest_at, by_splinters, by_all_splinters, by_variable}
use Rattle.sm_omega.specs.Exact.{solved_within, by_rule}
use Rattle.sm_exact.specs.declared.entry.Entry.{Entry}
use Rattle.sm_exact.specs.declared.frame.Side.{Side}
use Rattle.sm_exact.specs.declared.frame.Side.TheVariants.{Below, Above}
pub use Rattle.sm_exact.specs.declared.frame.Frame.{Frame}
pub use Rattle.sm_exact.specs.declared.frame.Frame.TheVariants.{Bounds, Dark, Equation, Splinters}
use Rattle.sm_exact.specs.declared.frame.Tried.{Tried}
use Rattle.sm_exact.specs.declared.step.Step.{Step}
use Rattle.sm_exact.specs.Entries.{shown}

-- the value of a variable by the bounds from one side
abbrev pub side_bound : Side → ℕ → List (Linear ℕ) → Values → Outcome ℤ
side_bound Below t fs = greatest_bound t (lower_bounds t fs)
side_bound Above t fs = least_bound t (upper_bounds t fs)

-- the splinters of the lower bounds of a list from a place on
abbrev pub splinters_from : ℕ → ℕ → ℕ → ℕ → List (Linear ℕ) → ℕ → ℕ → Answer
splinters_from limit depth s t fs from =
    by_all_splinters limit (solved_within limit depth s) fs t (greatest_at t (upper_bounds t fs))
    (lower_bounds t (drop from fs))

-- the splinters that are left
abbrev pub splinters_left : ℕ → ℕ → Tried → ℕ → Answer
splinters_left limit depth r =
    by_splinters limit (solved_within limit depth r.s) r.forms.items r.bound r.left r.next
    (splinters_from limit depth r.s r.t r.forms.items r.after)

-- what a frame makes of the answer that it waits for; lists that it decides have so much depth
abbrev pub told : ℕ → ℕ → Frame → Answer → Answer
told limit depth (Equation t e) a = giving t (value_by t e) a
told limit depth (Bounds t side fs) a = giving t (side_bound side t fs.items) a
told limit depth (Dark s t fs) a =
    or_else (giving t (side_bound Below t fs.items) a)
    (splinters_from limit depth s t fs.items 0)
told limit depth (Splinters r) a = or_else a (splinters_left limit depth r)

-- the whole is what frames, the last of which comes first, make of an answer
abbrev pub Awaits : ℕ → List Frame → Answer → Answer → Type 0
Awaits limit [] a whole = whole ≡ a
Awaits limit (f ∷ fs) a whole =
    (depth : ℕ) × (rest : Answer) × (whole ≡ told limit depth f rest) × Awaits limit fs a rest

-- the answer of what is entered
abbrev pub answer_of : ℕ → ℕ → ℕ → Entry → Answer
answer_of limit depth s entry = go_on (shown entry) (or_refuted (solved_within limit depth s))

-- the whole is what frames make of the answer of what is entered
abbrev pub Stands : ℕ → List Frame → ℕ → Entry → Answer → Type 0
Stands limit fs s entry whole = (depth : ℕ) × Awaits limit fs (answer_of limit depth s entry) whole

-- each variable is 0
abbrev pub all_zero : Values
all_zero = λ (a : ℕ). pos 0

-- a step makes the answer of a list that of another
abbrev pub Steps : ℕ → ℕ → Step → Answer → Type 0
Steps limit depth r a = a ≡ told limit depth r.frame (answer_of limit depth r.s r.entry)

-- it is a step of the rule of bounds
abbrev pub StepsByBounds : ℕ → ℕ → List (Linear ℕ) → ℕ → ℕ → Step → Type 0
StepsByBounds limit s fs c t r =
    (depth : ℕ) → Steps limit depth r (by_variable limit (solved_within limit depth s) fs c t)

-- it is a step of the first rule that applies
abbrev pub StepsByRule : ℕ → ℕ → List (Linear ℕ) → ℕ → Step → Type 0
StepsByRule limit s fs c r =
    (depth : ℕ) → Steps limit depth r (by_rule limit (solved_within limit depth) s fs c)

-- a rule applies, or no variable is left
abbrev pub Applies : ℕ → ℕ → List (Linear ℕ) → ℕ → Option Step → Type 0
Applies limit s fs c None =
    (depth : ℕ) →
    by_rule limit (solved_within limit depth) s fs c ≡ Done c (Some all_zero)
Applies limit s fs c (Some r) = StepsByRule limit s fs c r
