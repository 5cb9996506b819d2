-- The first parts are known.
use Rattle.sm_plan.proofs.Imports.{◌≡◌, Some, nat_eq, map, take, get, TermId}
use Rattle.sm_plan.proofs.filling.all_known.Given as goal

abbrev pub invariant-loop-part : goal.invariant-loop-part
invariant-loop-part l =
    map (λ (t : TermId). get nat_eq l.known t.0) (take l.part-index l.parts) ≡ map (λ (t : TermId). Some t) l.list.items
