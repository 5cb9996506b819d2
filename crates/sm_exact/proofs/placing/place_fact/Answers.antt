-- The form of a linear fact goes behind those so far.
use Rattle.sm_exact.proofs.Imports.{◌++◌, ◌∷◌, [], sym, subst, Fact, IsPlacedIf, ArePlacedForms}
use Rattle.sm_theory.specs.declared.fact.Fact.TheVariants as fact
use Rattle.sm_exact.proofs.PlacedBranch.{forms_append, forms_stay}
use Rattle.sm_exact.proofs.placing.place_fact.Goals as goal

pub returns-in-Form-clause-placed : goal.returns-in-Form-clause-placed
returns-in-Form-clause-placed c = λ e facts placed.
    let numbers = c.args.terms.now in
    let forms = c.args.forms.now.items in
    subst (λ (f : Fact). ArePlacedForms numbers (facts ++ f ∷ []) forms) (sym c.in-Form.is)
    (forms_stay numbers facts forms c.in-Form.field-0 placed)

pub returns-in_ok-push-in-Some-clause-placed : goal.returns-in_ok-push-in-Some-clause-placed
returns-in_ok-push-in-Some-clause-placed c = λ e facts placed.
    let numbers = c.args.terms.now in
    let forms = c.args.forms.now.items in
    let one = subst (IsPlacedIf numbers c.in-Lin.f) c.in-Some.is c.in_ok-h-in-Lin.ensures in
    subst (λ (f : Fact). ArePlacedForms numbers (facts ++ f ∷ []) c.push.new.self.items) (sym c.in-Lin.is)
    (subst (ArePlacedForms numbers (facts ++ fact.Lin c.in-Lin.f ∷ [])) (sym c.in_ok-push-in-Some.ensures.items)
    (forms_append numbers facts forms (fact.Lin c.in-Lin.f) (c.in-Some.h ∷ []) placed (one, tt)))
