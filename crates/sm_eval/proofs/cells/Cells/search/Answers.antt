-- the closure gives a cell's index, and the slice is the list of cells
use Rattle.sm_eval.proofs.Imports.{rules, to_z-of_z, answers_always, AreCells}
use Rattle.sm_eval.proofs.Ordered.{searched}
use Rattle.sm_eval.proofs.cells.Cells.search.Goals as goal

pub returns : goal.returns
returns c =
    let facts = c.binary_search_by_key.ensures in
    let by_index = facts.position (λ pair. pair.0) (answers_always _ _ _ (λ f a r g called. search rules)) in
    let cells : AreCells c.as_slice.result.now = rw c.as_slice.ensures c.self.invariant in
    let fits = c.ranges.i in
    rw (← c.self.view_is, ← c.as_slice.ensures)
    (searched c.as_slice.result.now cells.ascending c.args.i _ facts.bound (simp to_z-of_z at by_index))
