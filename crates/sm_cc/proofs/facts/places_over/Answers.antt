-- What is given of the terms is given of their places.
use Rattle.sm_cc.proofs.Imports.{◌≡◌, List, sym, subst, IfOk, IfOk-weaker, placed_equations, AreAllGiven, placed_with, AreGrown, Placed}
use Rattle.sm_cc.specs.declared.log.Given.{Given}
use Rattle.sm_cc.specs.declared.row.Row.{Row}
use Rattle.sm_cc.proofs.facts.places_over.Goals as goal

pub over-requires-clause-equal : goal.over-requires-clause-equal
over-requires-clause-equal c =
    subst (λ (es : List Given). AreAllGiven c.args.ground.now.closure.equal.items es) (sym c.in_ok-equal.ensures.equal) c.requires.equal

pub over-requires-clause-unequal : goal.over-requires-clause-unequal
over-requires-clause-unequal c =
    subst (λ (us : List Given). AreAllGiven c.args.ground.now.closure.unequal.items us) (sym c.in_ok-equal.ensures.unequal) c.requires.unequal

pub returns : goal.returns
returns c =
    let base = c.args.ground.now.closure.rows.items in
    let more = c.args.more.items in
    let found = c.in_ok-equal in
    let equations = placed_equations c.args.positions.now c.args.facts.now in
    let are = λ (es us : List Given).
    IfOk c.over.result (λ (p : Placed). (rows : List Row) × AreGrown base more rows × (p ≡ placed_with rows es us)) in
    subst (are equations) found.ensures.unequal (subst (λ (es : List Given). are es found.unequal.items) found.ensures.equal c.over.ensures)
