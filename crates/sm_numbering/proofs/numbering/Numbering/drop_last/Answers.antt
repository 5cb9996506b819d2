-- The places without that of the last value.
use Rattle.std.proofs.Common.{cond, None, ap, ◌∙◌, subst}
use Rattle.sm_numbering.specs.Places.{place_of, AreApart}
use Rattle.sm_numbering.proofs.PlaceLemmas.{apart_last, places_cut}
use Rattle.sm_numbering.proofs.numbering.Numbering.drop_last.Goals as goal

pub invariant_of-self : goal.invariant_of-self
invariant_of-self g c =
    let eq = g.T.PartialEq.eq in
    let ts = c.pop.new.self.items in
    let v = c.in-Some.value in
    let whole = c.in-Some.ensures.items in
    let apart = apart_last eq g.met.T.Eq.laws ts v (subst (AreApart eq) whole c.self.invariant.1) in (
      λ q. c.remove.ensures.updates.0 q
          ∙ ap (cond (eq v q) None) (c.self.invariant.0 q ∙ ap (place_of (eq q)) whole)
          ∙ places_cut eq g.met.T.Eq.laws ts v q apart.1,
      apart.0,
    )
