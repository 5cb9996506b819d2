-- Private: formulas that are put behind others while a table grows.
use Rattle.std.specs.Prelude.{◌≡◌, List, ◌++◌, length}
use Rattle.sm_term.specs.Assertions.{Assertion}
use Rattle.sm_term.specs.Formulas.{numbered, assertion_in, IsFormulaWithin}
use Rattle.sm_term.specs.declared.formula.Formula.{Formula}
use Rattle.sm_term.specs.Tables.{TableValue, trees_in, sorts_in}
use Rattle.sm_plan.specs.ReadyStates.{AreFormsReady}
use Rattle.sm_plan.specs.Views.{forms_in}

-- a formula of a table stands for this one
abbrev pub IsFormMade : TableValue → Formula → Assertion → Type 0
IsFormMade v f a =
    IsFormulaWithin (length (trees_in v)) (numbered f)
    × (assertion_in (sorts_in v) (trees_in v) (numbered f) ≡ a)

-- where formulas are ready in the old table, those with some more are in the new one, and those
-- stand behind
abbrev pub AddsForms : TableValue → TableValue → List Formula → List Formula →
    List Assertion → Type 0
AddsForms old new fs gs more =
    AreFormsReady (sorts_in old) (trees_in old) fs →
    AreFormsReady (sorts_in new) (trees_in new) gs
    × (forms_in (sorts_in new) (trees_in new) gs
    ≡ forms_in (sorts_in old) (trees_in old) fs ++ more)
