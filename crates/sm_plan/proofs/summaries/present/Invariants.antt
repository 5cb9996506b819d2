-- The terms of the names so far.
use Rattle.sm_plan.proofs.Imports.{◌≡◌, take, terms_named}
use Rattle.sm_plan.proofs.summaries.present.Given as goal

abbrev pub invariant-loop-x : goal.invariant-loop-x
invariant-loop-x l = l.list.items ≡ terms_named l.store.list.items (take l.x-index l.names)
