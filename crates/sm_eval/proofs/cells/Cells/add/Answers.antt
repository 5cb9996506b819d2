use Rattle.sm_eval.proofs.Imports.{ℤ, List, sym, ap, ◌∙◌, to_z-of_z, with_element, listed, IsGapFor}
use Rattle.sm_eval.proofs.Integers.{zero_by_bits, other_by_bits}
use Rattle.sm_eval.proofs.Ordered.{gap_has_zero, insert_is, insert_cells}
use Rattle.sm_eval.proofs.cells.Cells.add.Goals as goal

-- an index without a cell has 0
pub returns-then-z-eq0-clause-ok : goal.returns-then-z-eq0-clause-ok
returns-then-z-eq0-clause-ok c =
    gap_has_zero c.args.self.now c.args.i c.args.at c.requires ∙
    ap (with_element (listed c.args.self.now) c.args.i) (sym (zero_by_bits c.args.z c.ranges.z c.if-z-eq0.true))

-- with a new cell
pub invariant_of-self-2 : goal.invariant_of-self-2
invariant_of-self-2 c =
    let l = c.self.inside.pairs in
    let gap : IsGapFor l c.args.i c.args.at = rw c.self.view_is c.requires in
    let fits_i = c.ranges.i in
    let fits_z = c.ranges.z in
    rw c.in_ok-insert.ensures.ok
    (simp to_z-of_z (insert_cells l c.args.i c.args.at gap c.self.invariant c.args.z (other_by_bits c.args.z c.if-z-eq0.false)))

pub returns-clause-ok : goal.returns-clause-ok
returns-clause-ok c =
    let l = c.self.inside.pairs in
    let gap : IsGapFor l c.args.i c.args.at = rw c.self.view_is c.requires in
    let fits_i = c.ranges.i in
    let fits_z = c.ranges.z in
    rw c.in_ok-insert.ensures.ok
    (simp to_z-of_z (insert_is l c.args.i c.args.at gap c.args.z ∙
    ap (λ (m : List (ℤ × ℤ)). with_element (listed m) c.args.i c.args.z) c.self.view_is))
