-- The place is the first at which the number stands.
use Rattle.sm_exact.proofs.Imports.{sym, HasNoPlace}
use Rattle.sm_exact.proofs.PlacingLemmas.{found_at, unlisted, if_none}
use Rattle.sm_exact.proofs.placing.place_of.Goals as goal

pub returns-in_err-place-clause-none : goal.returns-in_err-place-clause-none
returns-in_err-place-clause-none c =
    let numbers = c.args.terms.now in
    if_none (HasNoPlace numbers c.args.k) c.from_residual.result (unlisted numbers c.args.k (sym c.in_err-place.ensures.found))

pub returns-clause-some : goal.returns-clause-some
returns-clause-some c = found_at c.args.terms.now c.args.k c.in_ok-place.place (sym c.in_ok-place.ensures.number)
