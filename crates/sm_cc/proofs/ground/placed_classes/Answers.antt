-- What is given of the terms is given of their places.
use Rattle.sm_cc.proofs.Imports.{◌≡◌, List, subst, IfOk, placed_of, placed_with, placed_equations}
use Rattle.sm_cc.specs.Closures.{Closure, Given}
use Rattle.sm_cc.proofs.ground.placed_classes.Goals as goal

pub returns-clause-given : goal.returns-clause-given
returns-clause-given c =
    let rows = c.args.rows.items in
    let found = c.in_ok-equal in
    let result = c.settled.result in
    let equations = placed_equations c.args.positions.now c.args.facts.now in
    subst (λ (us : List Given). IfOk result (λ (d : Closure). placed_of d ≡ placed_with rows equations us)) found.ensures.unequal
    (subst (λ (es : List Given). IfOk result (λ (d : Closure). placed_of d ≡ placed_with rows es found.unequal.items)) found.ensures.equal
    c.settled.ensures.given)
