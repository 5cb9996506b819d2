-- Private: classes that begin with others keep the first places that have their keys.
use Rattle.std.specs.Prelude.{◌≡◌, ℕ, ◌+◌, ◌<◌, Bool, IsTrue, Option, Some, None, List, slice_get}
use Rattle.sm_cc.specs.declared.log.Equation.{Equation}
use Rattle.sm_cc.specs.declared.closure.Closure.{Closure}
use Rattle.sm_cc.specs.declared.ground.BaseClasses.{BaseClasses}
use Rattle.sm_cc.specs.Firsts.{Keyed, AreFirsts, label_at}
use Rattle.sm_cc.specs.BaseClasses.{AreInside, AreKeyed}
use Rattle.sm_cc.specs.Growing.{AreKept}

-- a place that was met, or else another
abbrev pub met_or : Option ℕ → Option ℕ → Option ℕ
met_or (Some j) other = Some j
met_or None other = other

-- the first place that has a key by one map, or else by another
abbrev pub over_at : (Keyed → Option ℕ) → (Keyed → Option ℕ) → Keyed → Option ℕ
over_at base met k = met_or (base k) (met k)

-- places below a bound that have one key are equal
abbrev pub KeysMeet : (ℕ → Option Keyed) → (ℕ → ℕ → Bool) → ℕ → Type 0
KeysMeet key equal bound =
    (i j : ℕ) (k : Keyed) → i < bound → j < bound → key i ≡ Some k → key j ≡ Some k →
    IsTrue (equal i j)

-- one more place is equal to the first that has its key
abbrev pub MeetsFirst :
    (ℕ → Option Keyed) → (ℕ → ℕ → Bool) → ℕ → (Keyed → Option ℕ) → (Keyed → Option ℕ) → Type 0
MeetsFirst key equal i old new = AreFirsts key equal old i → AreFirsts key equal new (i + 1)

-- places below a bound have the labels that they had
abbrev pub AreLabelsKept : ℕ → List Equation → List Equation → Type 0
AreLabelsKept bound old new =
    (i : ℕ) → i < bound → label_at (slice_get new i) ≡ label_at (slice_get old i)

-- classes begin with the rows of others, whose first places are known
pub record IsOver (g : BaseClasses) (c : Closure) : Type 0 where
  pub kept : AreKept g.closure.rows.items c.rows.items
  pub keyed : AreKeyed g
  pub inside : AreInside g.closure.rows.items
