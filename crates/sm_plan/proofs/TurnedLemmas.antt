-- Guards that are true or false, as formulas of the program.
use Rattle.sm_plan.proofs.Imports.{◌≡◌, ℕ, Bool, true, false, if◌then◌else◌, Option, Some, None, List, [], ◌∷◌, ◌++◌, length, refl, sym, ap, ◌∙◌, subst, Sorts, negate, numbered, assertion_in, IsFormulaWithin, Formula, IsFormSorted, Tree, contrary_negates, contrary_within, IsFormReady, AreFormsReady, negate_sorted}
use Rattle.sm_term.specs.Formulas.{contrary}

pub same_ready : (sorts : Sorts) (trees : List Tree) (f g : Formula) → numbered g ≡ numbered f → IsFormReady sorts trees f →
    IsFormReady sorts trees g
same_ready sorts trees f g e ready =
    subst (λ n. IsFormulaWithin (length trees) n × IsFormSorted sorts (assertion_in sorts trees n)) (sym e) ready

-- the contrary
pub contrary_made : (sorts : Sorts) (trees : List Tree) (f g : Formula) → numbered g ≡ contrary (numbered f) →
    assertion_in sorts trees (numbered g) ≡ negate (assertion_in sorts trees (numbered f))
contrary_made sorts trees f g e = ap (assertion_in sorts trees) e ∙ contrary_negates sorts trees (numbered f)

pub contrary_ready : (sorts : Sorts) (trees : List Tree) (f g : Formula) → numbered g ≡ contrary (numbered f) → IsFormReady sorts trees f →
    IsFormReady sorts trees g
contrary_ready sorts trees f g e ready = (
  subst (IsFormulaWithin (length trees)) (sym e) (contrary_within (length trees) (numbered f) ready.0),
  subst (IsFormSorted sorts) (sym (contrary_made sorts trees f g e)) (negate_sorted sorts (assertion_in sorts trees (numbered f)) ready.1),
)

pub ready_push : (sorts : Sorts) (trees : List Tree) (fs : List Formula) (g : Formula) → AreFormsReady sorts trees fs →
    IsFormReady sorts trees g → AreFormsReady sorts trees (fs ++ g ∷ [])
ready_push sorts trees [] g ready new = (new, tt)
ready_push sorts trees (f ∷ fs) g ready new = (ready.0, ready_push sorts trees fs g ready.1 new)
