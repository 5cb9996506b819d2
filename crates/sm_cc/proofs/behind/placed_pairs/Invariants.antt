-- The places of the first pairs.
use Rattle.sm_cc.proofs.Imports.{◌≡◌, map, take, TermId, place_at}
use Rattle.sm_cc.proofs.behind.placed_pairs.Given as goal

abbrev pub invariant-loop-p : goal.invariant-loop-p
invariant-loop-p l =
    l.list.items ≡ map (λ (p : TermId × TermId). (place_at l.positions p.0.0, place_at l.positions p.1.0)) (take l.p-index l.pairs)
