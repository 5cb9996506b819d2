use Rattle.sm_solve.proofs.Imports.{◌≡◌, List, subst, Assertion, with_parts, all_numbered, assertions_in}
use Rattle.sm_solve.proofs.GroundingLemmas.{room_is, room_within}
use Rattle.sm_solve.proofs.grounding.with_room.Goals as goal

pub returns-clause-facts : goal.returns-clause-facts
returns-clause-facts c = λ sorts trees.
    let room = room_is sorts trees c.args.facts.now c.in_ok-all.all.items c.push.new.self.items c.in_ok-push.ensures.items
    c.in_ok-all.ensures in
    subst (λ (fs : List Assertion). assertions_in sorts trees (all_numbered c.add_parts.new.facts.items) ≡ with_parts fs) room
    (c.in_ok-add_parts.ensures.added sorts trees)

pub returns-clause-within : goal.returns-clause-within
returns-clause-within c = λ count within.
    c.in_ok-add_parts.ensures.within count
    (room_within count c.args.facts.now c.in_ok-all.all.items c.push.new.self.items c.in_ok-push.ensures.items c.in_ok-all.ensures within)
