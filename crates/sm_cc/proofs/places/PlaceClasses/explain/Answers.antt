use Rattle.sm_cc.proofs.Imports.{sym, subst, SamePlaces, Placed, are_together}
use Rattle.sm_cc.proofs.places.PlaceClasses.explain.Goals as goal

pub explanation-requires-clause-together : goal.explanation-requires-clause-together
explanation-requires-clause-together c =
    let x = c.self.inside.inside in
    let same = subst (λ (v : Placed). SamePlaces v.board c.args.i c.args.j) (sym c.self.view_is) c.requires.same in
    same (are_together x.roots.items) c.self.invariant.closed
