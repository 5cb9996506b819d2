use Rattle.sm_cc.proofs.Imports.{◌≡◌, true, subst, ApartPlaces, Placed}
use Rattle.sm_cc.proofs.PlacesLemmas.{exact_apart}
use Rattle.sm_cc.proofs.places.PlaceClasses.apart.Goals as goal

pub returns : goal.returns
returns c =
    subst
    (λ (v : Placed).
    (c.is_some.result ≡ true → ApartPlaces v.board c.args.i c.args.j) × (ApartPlaces v.board c.args.i c.args.j → c.is_some.result ≡ true))
    c.self.view_is
    (exact_apart c.self.inside.inside c.self.invariant c.args.i c.args.j c.find_witness.result c.is_some.result c.is_some.ensures
    c.find_witness.ensures)
