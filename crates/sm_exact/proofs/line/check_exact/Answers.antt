-- The forms that are decided are those of the exact line.
use Rattle.sm_exact.proofs.Imports.{◌≡◌, ℕ, true, false, List, Some, None, refl, sym, ap, subst, ◌∙◌, IfSome, le-leb, Linear, trees_in, sorts_in, forms_of_branch, has_no_solution, StandsIf}
use Rattle.sm_omega.specs.Exact.{exact}
use Rattle.sm_term.specs.declared.formula.Formula.TheVariants as formula
use Rattle.sm_theory.specs.declared.fact.Fact.TheVariants as fact
use Rattle.sm_exact.proofs.PlacingLemmas.{none_case}
use Rattle.sm_exact.proofs.PlacedBranch.{adds_none, adds_decided}
use Rattle.sm_exact.proofs.line.check_exact.Goals as goal

pub returns-in_default : goal.returns-in_default
returns-in_default c = λ facts stand.
    let trees = trees_in c.args.table.now in
    let sorts = sorts_in c.args.table.now in
    let none = none_case (forms_of_branch facts ≡ None) c.in_ok-forms.field-0 (c.in_ok-forms.ensures.none facts stand)
    c.in_default.not-Some in
    subst (StandsIf sorts trees None) (sym (adds_none facts c.args.steps none)) tt

pub returns-then-is_refuted : goal.returns-then-is_refuted
returns-then-is_refuted c = λ facts stand.
    let trees = trees_in c.args.table.now in
    let sorts = sorts_in c.args.table.now in
    let forms = c.in-Some.forms.items in
    let are = subst (λ o. IfSome o (λ fs. forms_of_branch facts ≡ Some fs.items)) c.in-Some.is (c.in_ok-forms.ensures.some facts stand) in
    let told = ap (λ (fs : List (Linear ℕ)). has_no_solution (exact fs c.args.steps)) (sym c.deref.ensures.value)
    ∙ sym c.in_ok-is_refuted.ensures ∙ c.if-is_refuted.true in
    subst (StandsIf sorts trees (Some (fact.Form formula.No)))
    (sym (adds_decided facts c.args.steps forms true (le-leb c.args.steps 1000000 c.if-steps-gt1000000.false) are told)) (tt, refl)

pub returns : goal.returns
returns c = λ facts stand.
    let trees = trees_in c.args.table.now in
    let sorts = sorts_in c.args.table.now in
    let forms = c.in-Some.forms.items in
    let are = subst (λ o. IfSome o (λ fs. forms_of_branch facts ≡ Some fs.items)) c.in-Some.is (c.in_ok-forms.ensures.some facts stand) in
    let told = ap (λ (fs : List (Linear ℕ)). has_no_solution (exact fs c.args.steps)) (sym c.deref.ensures.value)
    ∙ sym c.in_ok-is_refuted.ensures ∙ c.if-is_refuted.false in
    subst (StandsIf sorts trees None)
    (sym (adds_decided facts c.args.steps forms false (le-leb c.args.steps 1000000 c.if-steps-gt1000000.false) are told)) tt
