-- Private: the lines of a formula.
use Rattle.std.specs.Prelude.{◌≡◌, ◌<◌, ◌^◌, ℕ, Some, slice_get, List}
use Rattle.sm_term.specs.Assertions.{Assertion}
use Rattle.sm_term.specs.Formulas.{NumberedFormula, assertion_in}
use Rattle.sm_term.specs.Sorted.{IsFormSorted}
use Rattle.sm_term.specs.Tables.{TableValue, trees_in, sorts_in, tree_at}
use Rattle.sm_term.specs.declared.term.TermId.{TermId}
use Rattle.sm_plan.specs.States.{State}
use Rattle.sm_proof.specs.Passing.{Progress}
use Rattle.sm_proof.specs.Verdicts.{Subject}
use Rattle.sm_write.specs.Nameable.{EachSide}
use Rattle.sm_write.specs.Seen.{IsBuilt, Seen}
use Rattle.sm_write.specs.Walked.{Extends, IsSet}
use Rattle.sm_write.specs.Writers.{WriterValue}

-- the formula over the trees of a table
abbrev pub form_over : TableValue → NumberedFormula → Assertion
form_over v f = assertion_in (sorts_in v) (trees_in v) f

-- two terms have numbers in the file
pub record HavePair (s : Subject) (v : TableValue) (old new : WriterValue) (p : Progress)
    (t u : TermId) (r : ℕ × ℕ) : Type 0 where
  pub extends : Extends s (trees_in v) old new p
  pub first : slice_get extends.after.terms r.0 ≡ Some (tree_at (trees_in v) t.0)
  pub second : slice_get extends.after.terms r.1 ≡ Some (tree_at (trees_in v) u.0)
  pub first_low : r.0 < 2 ^ 64
  pub second_low : r.1 < 2 ^ 64

-- two terms get numbers in the file, wherever they can be named
abbrev pub NamesPair :
    TableValue → WriterValue → WriterValue → TermId → TermId → ℕ × ℕ → Type 0
NamesPair v old new t u r =
    (s : Subject) (seen : List State) (p : Progress) → IsSet s v old seen p →
    IsBuilt (Seen seen) (tree_at (trees_in v) t.0) →
    IsBuilt (Seen seen) (tree_at (trees_in v) u.0) → HavePair s v old new p t u r

-- a formula was written, and has a number
pub record FormWritten (s : Subject) (v : TableValue) (old new : WriterValue) (p : Progress)
    (f : NumberedFormula) (n : ℕ) : Type 0 where
  pub extends : Extends s (trees_in v) old new p
  pub there : slice_get extends.after.forms n ≡ Some (form_over v f)

-- a sorted formula is written and gets a number, wherever its terms can be named
abbrev pub WritesForm : TableValue → WriterValue → WriterValue → NumberedFormula → ℕ → Type 0
WritesForm v old new f n =
    (s : Subject) (seen : List State) (p : Progress) → IsSet s v old seen p →
    IsFormSorted (sorts_in v) (form_over v f) →
    EachSide (IsBuilt (Seen seen)) (form_over v f) → FormWritten s v old new p f n
