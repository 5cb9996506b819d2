-- The trials: the inputs that are tried on every task. Trial 0 is zero. Public clauses cite it.
use Rattle.std.specs.Prelude.{◌<◌, ℕ, zero, suc, ◌+◌, ◌*◌, ◌/◌, ◌%◌, ℤ, pos, negsuc, ◌-ℤ◌, nat_lt, if◌then◌else◌, Option, Some, None, unwrap_or, MatchOption}
use Rattle.sm_syntax.specs.claim.ConflictFree.{Task}
use Rattle.sm_syntax.specs.text.Sorts.{Sorts}
use Rattle.sm_syntax.specs.declared.tree.Sort.{Sort}
use Rattle.sm_syntax.specs.declared.tree.Sort.TheVariants.{Num, Arr}
use Rattle.sm_syntax.specs.claim.Stores.{Value, Number, Array, zero_value, Store}
use Rattle.sm_eval.specs.Zeros.{zeros}
pub use Rattle.sm_replay.specs.declared.verdict.Verdict.{Verdict}
use Rattle.sm_replay.specs.declared.verdict.Verdict.TheVariants as verdict
use Rattle.sm_replay.specs.Violations.{IsMet, Violates}
use Rattle.sm_replay.specs.Verdicts.{Breaks, cell_of}
pub use Rattle.sm_replay.specs.declared.verdict.Verdict.TheVariants.{Holds, Unmet}

-- how many trials there are
abbrev pub trials : ℕ
trials = 256

-- the k-th number of trial j, from -6 to 12
unfoldable pub number_in_trial : ℕ → ℕ → ℤ
number_in_trial j k = pos ((j * (5 * k + 7) + (j / 8) * (3 * k + 1)) % 19) -ℤ pos 6

-- the elements at indices below n of the array whose name has number k
abbrev pub elements_below : ℕ → ℕ → ℕ → ℤ → Option ℤ
elements_below n j k (pos c) = if nat_lt c n then Some (number_in_trial j (k + c + 1)) else None
elements_below n j k (negsuc c) = None

-- the number at an index of that array: there are eight, from index 0 on
abbrev pub element_in_trial : ℕ → ℕ → ℤ → ℤ
element_in_trial j k i = unwrap_or (elements_below 8 j k i) (pos 0)

-- the value in trial j of a name by its number, which in a task is that of its declaration
abbrev pub value_in_trial : ℕ → ℕ → Option Sort → Value
value_in_trial j k None = zero_value
value_in_trial j k (Some Num) = Number (number_in_trial j k)
value_in_trial j k (Some Arr) = Array (element_in_trial j k)

-- trial j for declared names
abbrev pub trial : Sorts → ℕ → Store
trial sorts zero x = zeros sorts x
trial sorts (suc j) x = value_in_trial (suc j) x (sorts x)

-- a verdict that names where Keeps fails first
abbrev pub Names : Task → Store → ℕ → Verdict → Type 0
Names t s n verdict.Holds = ⊥
Names t s n verdict.Unmet = ⊥
Names t s n (verdict.Violates x i part) = Breaks t s n (cell_of x.0 i) part

-- the trial violates, the verdict says where, and no trial before it violates
pub record IsLeast (t : Task) (sorts : Sorts) (n j : ℕ) (v : Verdict) : Type 0 where
  pub inside : j < trials
  pub violates : Violates t (trial sorts j) n
  pub verdict : Names t (trial sorts j) n v
  pub no_violation_before : (i : ℕ) → i < j → ¬ Violates t (trial sorts i) n

-- the least trial that violates, or none where no trial violates
abbrev pub IsFirstViolation : Task → Sorts → ℕ → Option (ℕ × Verdict) → Type 0
IsFirstViolation t sorts n found =
    MatchOption found ((j : ℕ) → j < trials → ¬ Violates t (trial sorts j) n)
    (λ (f : ℕ × Verdict). IsLeast t sorts n f.0 f.1)

-- some trial meets the assumption
abbrev pub SomeTrialMeets : Task → Sorts → Type 0
SomeTrialMeets t sorts = (j : ℕ) × (j < trials) × IsMet t.assumed (trial sorts j)
