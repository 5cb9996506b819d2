-- Private: classes of places that begin with those of others.
use Rattle.std.specs.Prelude.{◌≡◌, ℕ, Some, List, ◌++◌, length, slice_get}
use Rattle.sm_cc.specs.declared.row.Row.{Row}
use Rattle.sm_cc.specs.declared.log.Rule.{Rule}
use Rattle.sm_cc.specs.declared.log.Rule.TheVariants as rule
use Rattle.sm_cc.specs.declared.log.Why.{Why}
use Rattle.sm_cc.specs.declared.log.Why.TheVariants as why
use Rattle.sm_cc.specs.declared.log.Entry.{Entry}

-- two rows know the same
pub record IsCopy (r s : Row) : Type 0 where
  pub head : s.head ≡ r.head
  pub arguments : s.arguments.items ≡ r.arguments.items
  pub shape : s.shape ≡ r.shape
  pub element : s.element ≡ r.element

-- each row of a list has a copy at its place in another
abbrev pub AreKept : List Row → List Row → Type 0
AreKept old new =
    (i : ℕ) (r : Row) → slice_get old i ≡ Some r →
    (s : Row) × (slice_get new i ≡ Some s) × IsCopy r s

-- rows are copies of others with more behind them
pub record AreGrown (old more new : List Row) : Type 0 where
  pub copies : List Row
  pub count : length copies ≡ length old
  pub kept : AreKept old copies
  pub all : new ≡ copies ++ more

-- two rules are one, and take the same facts
abbrev pub IsSameRule : Rule → Rule → Type 0
IsSameRule (rule.Cong ns) (rule.Cong ms) = ms.items ≡ ns.items
IsSameRule r s = s ≡ r

-- two reasons are the same
abbrev pub IsSameWhy : Why → Why → Type 0
IsSameWhy (why.By r) (why.By s) = IsSameRule r s
IsSameWhy w y = y ≡ w

-- two entries say the same for the same reason
pub record IsEntryCopy (e f : Entry) : Type 0 where
  pub reason : IsSameWhy e.why f.why
  pub known : f.known ≡ e.known

-- each entry of a list has a copy at its place in another
abbrev pub AreEntriesKept : List Entry → List Entry → Type 0
AreEntriesKept old new =
    (n : ℕ) (e : Entry) → slice_get old n ≡ Some e →
    (f : Entry) × (slice_get new n ≡ Some f) × IsEntryCopy e f
