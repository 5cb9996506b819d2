use Rattle.sm_solve.proofs.Imports.{◌≡◌, List, subst, Assertion, with_parts, all_numbered, assertions_in}
use Rattle.sm_solve.proofs.SolvingLemmas.{given_is, given_within}
use Rattle.sm_solve.proofs.solving.given_facts.Goals as goal

pub returns-clause-facts : goal.returns-clause-facts
returns-clause-facts c = λ sorts trees.
    let given = given_is sorts trees c.args.facts.now c.in_ok-all.all.items c.push.new.self.items c.args.target.now c.in_ok-negate.field-0
    c.in_ok-push.ensures.items c.in_ok-all.ensures c.in_ok-negate.ensures in
    subst (λ (fs : List Assertion). assertions_in sorts trees (all_numbered c.add_parts.new.facts.items) ≡ with_parts fs) given
    (c.in_ok-add_parts.ensures.added sorts trees)

pub returns-clause-within : goal.returns-clause-within
returns-clause-within c = λ count within one.
    c.in_ok-add_parts.ensures.within count
    (given_within count c.args.facts.now c.in_ok-all.all.items c.push.new.self.items c.args.target.now c.in_ok-negate.field-0
    c.in_ok-push.ensures.items c.in_ok-all.ensures c.in_ok-negate.ensures within one)
