-- The first inequalities are there.
use Rattle.sm_template.proofs.Imports.{take, TableValue, trees_in, sorts_in, AddsForms, AreBoundsReady, bounds_in}
use Rattle.sm_template.proofs.guards.put_bounds.Given as goal

abbrev pub invariant-loop-b : goal.invariant-loop-b
invariant-loop-b l =
    (v : TableValue) → AreBoundsReady (sorts_in v) (trees_in v) l.bounds →
    AddsForms v v l.fn.list.items l.list.items (bounds_in (trees_in v) (take l.b-index l.bounds))
