-- The places of the first terms.
use Rattle.sm_cc.proofs.Imports.{◌≡◌, map, take, TermId, place_at}
use Rattle.sm_cc.proofs.positions.Positions.list.Given as goal

abbrev pub invariant-loop-t : goal.invariant-loop-t
invariant-loop-t l = l.places.items ≡ map (λ (a : TermId). place_at l.self a.0) (take l.t-index l.terms)
