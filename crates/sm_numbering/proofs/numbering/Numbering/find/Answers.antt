-- A value that is found is at its place, and one that isn't is nowhere.
use Rattle.std.proofs.Common.{is_some, sym, ap, ◌∙◌}
use Rattle.std.specs.List.{position}
use Rattle.sm_numbering.proofs.PlaceLemmas.{found_there, not_found, place_passes, place_position, any_placed}
use Rattle.sm_numbering.proofs.numbering.Numbering.find.Goals as goal

pub returns-in-Some-clause-number : goal.returns-in-Some-clause-number
returns-in-Some-clause-number g c =
    let test = g.Q.Equivalent.equivalent c.args.key in
    c.in-Some.ensures.value
    ∙ found_there g.T.PartialEq.eq test (g.met.Q.Equivalent.respects_eq c.args.key) c.self.inside.places.entries c.self.inside.list.items c.self.invariant.0 _ c.in-Some.ensures.same_key
    ∙ place_position test c.self.inside.list.items
    ∙ ap (position test) c.self.view_is

pub returns-in-None-clause-number : goal.returns-in-None-clause-number
returns-in-None-clause-number g c =
    let test = g.Q.Equivalent.equivalent c.args.key in
    not_found g.T.PartialEq.eq test (g.met.Q.Equivalent.respects_eq c.args.key) c.self.inside.places.entries c.self.inside.list.items c.self.invariant.0 (sym c.in-None.ensures.value)
    ∙ place_position test c.self.inside.list.items
    ∙ ap (position test) c.self.view_is

pub returns-in-Some-clause-found : goal.returns-in-Some-clause-found
returns-in-Some-clause-found g c =
    let test = g.Q.Equivalent.equivalent c.args.key in
    ap is_some (returns-in-Some-clause-number g c ∙ sym (place_position test c.args.self.now)) ∙ any_placed test c.args.self.now

pub returns-in-None-clause-found : goal.returns-in-None-clause-found
returns-in-None-clause-found g c =
    let test = g.Q.Equivalent.equivalent c.args.key in
    ap is_some (returns-in-None-clause-number g c ∙ sym (place_position test c.args.self.now)) ∙ any_placed test c.args.self.now

pub returns-in-Some-clause-stored : goal.returns-in-Some-clause-stored
returns-in-Some-clause-stored g c =
    let test = g.Q.Equivalent.equivalent c.args.key in
    (place_passes test c.args.self.now _ (place_position test c.args.self.now ∙ sym (returns-in-Some-clause-number g c))).1
