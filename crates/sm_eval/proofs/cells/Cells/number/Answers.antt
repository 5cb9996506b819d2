use Rattle.sm_eval.proofs.Imports.{sym, subst, arith, to_z-of_z, AreCells}
use Rattle.sm_eval.proofs.Ordered.{listed_at, listed_gap}
use Rattle.sm_eval.proofs.cells.Cells.number.Goals as goal

-- the cell that was read is that of the index
pub returns-in-Ok : goal.returns-in-Ok
returns-in-Ok c =
    let fits = c.ranges.i in
    let found = simp to_z-of_z at c.in-Ok.ensures.found in
    let value = listed_at _ (subst AreCells c.self.view_is c.self.invariant) c.args.i _ found in
    grind (arith, value, c.get.ensures, c.self.view_is)

-- an index without a cell has 0
pub returns-in-Err : goal.returns-in-Err
returns-in-Err c = let fits = c.ranges.i in sym (listed_gap _ c.args.i _ (simp to_z-of_z at c.in-Err.ensures.absent))
