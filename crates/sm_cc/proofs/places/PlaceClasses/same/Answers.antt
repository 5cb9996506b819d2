use Rattle.sm_cc.proofs.Imports.{◌≡◌, true, subst, SamePlaces, Placed}
use Rattle.sm_cc.proofs.PlacesLemmas.{exact_same}
use Rattle.sm_cc.proofs.places.PlaceClasses.same.Goals as goal

pub returns : goal.returns
returns c =
    subst
    (λ (v : Placed).
    (c.together.result ≡ true → SamePlaces v.board c.args.i c.args.j) × (SamePlaces v.board c.args.i c.args.j → c.together.result ≡ true))
    c.self.view_is (exact_same c.self.inside.inside c.self.invariant c.args.i c.args.j c.together.result c.together.ensures)
