use Rattle.sm_text.proofs.Imports.{◌≡◌, ◌≤◌, refl, subst, List, length, IsPlaceWith, at_fault}
use Rattle.sm_syntax.specs.declared.token.Token.{Token}
use Rattle.sm_text.specs.parsing.ErrorPlaces.{at_token}
use Rattle.sm_text.proofs.parsing.text.refused.Goals as goal

pub returns-in-Some-default : goal.returns-in-Some-default
returns-in-Some-default c =
    let F : List Token → Type 0 = λ ts. IsPlaceWith c.args.fault.left ts c.in-Some-default.place in
    at_token c.in-Some-default.place (subst F c.deref.ensures.value c.in-Some-default.ensures.some) c.rule_error.ensures

pub returns-in-None-Some : goal.returns-in-None-Some
returns-in-None-Some c =
    let F : List Token → Type 0 = λ ts. c.args.fault.left ≤ length ts → c.args.fault.left ≡ 0 in
    at_fault c.in-None-Some.lexical c.in-None-Some.is-1 c.lexical_error.ensures
    (subst F c.deref.ensures.value (c.in-None-Some.ensures.none refl))
