use Rattle.sm_eval.proofs.Imports.{ℤ, List, sym, ap, ◌∙◌, to_z-of_z, with_element, listed, IsAt}
use Rattle.sm_eval.proofs.Integers.{zero_by_bits, other_by_bits}
use Rattle.sm_eval.proofs.Ordered.{set_is, set_cells, remove_is, remove_cells}
use Rattle.sm_eval.proofs.cells.Cells.replace.Goals as goal

-- without the cell
pub invariant_of-self : goal.invariant_of-self
invariant_of-self c =
    let at : IsAt c.self.inside.pairs c.args.i c.args.at = rw c.self.view_is c.requires in
    rw c.remove.ensures (remove_cells c.self.inside.pairs c.self.invariant c.args.i c.args.at at)

pub returns-then-z-eq0 : goal.returns-then-z-eq0
returns-then-z-eq0 c =
    let l = c.self.inside.pairs in
    let at : IsAt l c.args.i c.args.at = rw c.self.view_is c.requires in
    ap listed c.remove.ensures ∙ remove_is l c.self.invariant c.args.i c.args.at at ∙
    ap (with_element (listed l) c.args.i) (sym (zero_by_bits c.args.z c.ranges.z c.if-z-eq0.true)) ∙
    ap (λ (m : List (ℤ × ℤ)). with_element (listed m) c.args.i c.args.z) c.self.view_is

-- with another number in it
pub returns-else-z-eq0 : goal.returns-else-z-eq0
returns-else-z-eq0 c =
    let l = c.self.inside.pairs in
    let at : IsAt l c.args.i c.args.at = rw c.self.view_is c.requires in
    let fits_i = c.ranges.i in
    let fits_z = c.ranges.z in
    rw c.put.ensures (simp to_z-of_z
    (set_is l c.self.invariant c.args.i c.args.at at c.args.z ∙
    ap (λ (m : List (ℤ × ℤ)). with_element (listed m) c.args.i c.args.z) c.self.view_is))

pub invariant_of-self-else-z-eq0 : goal.invariant_of-self-else-z-eq0
invariant_of-self-else-z-eq0 c =
    let l = c.self.inside.pairs in
    let at : IsAt l c.args.i c.args.at = rw c.self.view_is c.requires in
    let fits_i = c.ranges.i in
    let fits_z = c.ranges.z in
    rw c.put.ensures
    (simp to_z-of_z (set_cells l c.self.invariant c.args.i c.args.at at c.args.z (other_by_bits c.args.z c.if-z-eq0.false)))
