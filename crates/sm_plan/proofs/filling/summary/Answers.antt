-- The arguments are known, or one isn't.
use Rattle.sm_plan.proofs.Imports.{List, refl, subst, nat_eq, get, TermId, ArePartsKnown}
use Rattle.sm_plan.specs.declared.filling.Parts.TheVariants.{Known, Unknown}
use Rattle.sm_plan.proofs.filling.summary.Goals as goal

pub returns-in_ok-from-in-Known : goal.returns-in_ok-from-in-Known
returns-in_ok-from-in-Known c =
    let known = get nat_eq c.args.known.now in
    let all = subst (ArePartsKnown known c.deref.result.now) c.in-Known.is c.in_ok-args.ensures in (
      c.in_ok-from-in-Known.from,
      c.in-Known.args,
      refl,
      c.in_ok-from-in-Known.ensures,
      subst (λ (l : List TermId). ArePartsKnown known l (Known c.in-Known.args)) c.deref.ensures.value all,
    )

pub returns-in-Unknown : goal.returns-in-Unknown
returns-in-Unknown c =
    let known = get nat_eq c.args.known.now in
    let one = subst (ArePartsKnown known c.deref.result.now) c.in-Unknown.is c.in_ok-args.ensures in
    subst (λ (l : List TermId). ArePartsKnown known l (Unknown c.in-Unknown.p)) c.deref.ensures.value one
