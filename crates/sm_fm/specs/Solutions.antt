-- Cited by public clauses: where the elimination ends quietly, its forms have a solution over
-- fractions.
use Rattle.std.specs.Prelude.{◌<◌, ℕ, IsTrue, ℤ, pos, ◌+ℤ◌, ◌*ℤ◌, Bool, false, not, List, [], ◌∷◌}
use Rattle.sm_num.specs.Forms.{Linear, Satisfies, sum_of_parts, IsKept}
use Rattle.sm_num.specs.Tightening.{is_contradictory}
use Rattle.sm_fm.specs.Elimination.{Event, Cancels, GoesBeyond, events}

-- something is so of each form
abbrev pub EachForm : (Linear ℕ → Type 0) → List (Linear ℕ) → Type 0
EachForm P [] = Unit {0}
EachForm P (f ∷ fs) = P f × EachForm P fs

-- a form holds where its atoms are these whole numbers, each over one denominator
abbrev pub HoldsOver : ℕ → (ℕ → ℤ) → Linear ℕ → Type 0
HoldsOver d v f = Satisfies f.kind (sum_of_parts v f.parts +ℤ (f.constant *ℤ pos d))

-- whole numbers over one common positive denominator that make forms hold
pub record Solution (forms : List (Linear ℕ)) : Type 0 where
  pub denominator : ℕ
  pub positive : 0 < denominator
  pub values : ℕ → ℤ
  pub each : EachForm (HoldsOver denominator values) forms

-- the atoms of parts are below a number
abbrev pub AreBelow : ℕ → List (ℕ × ℤ) → Type 0
AreBelow n [] = Unit {0}
AreBelow n (p ∷ ps) = (p.0 < n) × AreBelow n ps

-- a form as the program keeps it, over so many atoms, which is no contradiction
pub record IsGiven (atoms : ℕ) (f : Linear ℕ) : Type 0 where
  pub kept : IsKept f
  pub below : AreBelow atoms f.parts
  pub quiet : IsTrue (not (is_contradictory f))

-- whether an event is neither a contradiction nor leaves the range
abbrev pub is_quiet : Event → Bool
is_quiet (Cancels f g t kept contradiction) = not contradiction
is_quiet (GoesBeyond op y z) = false

-- each event is
abbrev pub AreQuiet : List Event → Type 0
AreQuiet [] = Unit {0}
AreQuiet (e ∷ es) = IsTrue (is_quiet e) × AreQuiet es

-- where all that happens is quiet, the forms have a solution
abbrev pub QuietHasSolution : Type 0
QuietHasSolution =
    (forms : List (Linear ℕ)) (atoms : ℕ) → EachForm (IsGiven atoms) forms →
    AreQuiet (events forms atoms) → Solution forms
