-- What a count of faults says of the cause of a fault. A count never falls, and rises only where a
-- fault is answered. It stays at 2 ^ 64 - 1, its last value, where it can't show a further fault.
use Rattle.std.specs.Prelude.{◌≡◌, ◌≤◌, ◌+◌, ◌-◌, ◌^◌, ◌⊎◌, ℕ, min}
use Rattle.sm_io.specs.Files.{Known, absent}

-- the count rose by one or more; at its last value this says nothing
abbrev pub Rose : ℕ → ℕ → Type 0
Rose before now = min (before + 1) (2 ^ 64 - 1) ≤ now

-- over a call: a fault only where the count rose, and the count the same without a fault
pub record HasCause (before now : ℕ) (fault : Type 0) : Type 0 where
  pub later : before ≤ now
  pub rose : fault → Rose before now
  pub quiet : (fault → ⊥) → now ≡ before

-- over a call that needs a file: also a fault, with the count the same, where no file has the name
pub record HasReadCause (file : Known) (before now : ℕ) (fault : Type 0) : Type 0 where
  pub later : before ≤ now
  pub rose : fault → Rose before now ⊎ ((file ≡ absent) × (now ≡ before))
  pub quiet : (fault → ⊥) → now ≡ before
