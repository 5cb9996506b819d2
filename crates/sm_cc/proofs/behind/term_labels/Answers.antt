-- Each term has the label of its place.
use Rattle.sm_cc.proofs.Imports.{ℕ, List, map, refl, ap, subst, ◌∙◌, TermId, place_at, ArePlacesLabelled}
use Rattle.sm_cc.specs.LabelsAt.{label_at}
use Rattle.sm_cc.proofs.behind.term_labels.Goals as goal

pub returns : goal.returns
returns c =
    let p = c.args.positions.now in
    let places = c.in_ok-places.places in
    record {
      places = places;
      labelled =
          subst (λ (qs : List (ℕ × ℕ)). ArePlacesLabelled c.args.ground.now c.args.more.now qs places)
          (c.deref.ensures.value ∙ c.in_ok-pairs.ensures) c.in_ok-places.ensures;
      are =
          c.in_ok-labels.ensures
          ∙ ap (λ (ls : List ℕ). map (λ (t : TermId). label_at ls (place_at p t.0)) c.args.terms.now) c.deref-2.ensures.value;
      exact = refl;
    }
