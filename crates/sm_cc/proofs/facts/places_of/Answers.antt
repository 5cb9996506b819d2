-- What is given of the terms is given of their places.
use Rattle.sm_cc.specs.Views.{ClassesValue}
use Rattle.sm_cc.proofs.PlacedLemmas.{classes_made}
use Rattle.sm_cc.proofs.facts.places_of.Goals as goal

pub returns : goal.returns
returns c =
    let v : ClassesValue = record { table = c.args.table.now; terms = c.args.terms.now; given = c.args.facts.now } in
    let found = c.in_ok-equal in
    classes_made v c.args.positions.now c.requires.positions c.in_ok-rows.rows.items c.in_ok-rows.ensures.stand c.requires.given
    found.equal.items found.unequal.items found.ensures.equal found.ensures.unequal c.in_ok-places.places c.in_ok-places.ensures
