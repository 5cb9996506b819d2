-- The labels of the first terms.
use Rattle.sm_cc.proofs.Imports.{◌≡◌, map, take, TermId, place_at}
use Rattle.sm_cc.specs.LabelsAt.{label_at}
use Rattle.sm_cc.proofs.told.labels_of.Given as goal

abbrev pub invariant-loop-t : goal.invariant-loop-t
invariant-loop-t l = l.list.items ≡ map (λ (t : TermId). label_at l.labels (place_at l.positions t.0)) (take l.t-index l.terms)
