use Rattle.sm_explain.proofs.Imports.{refl, sym, subst, Value, Grows, element_lines, AreValueLines}
use Rattle.sm_explain.proofs.starts.put_array_lines.Goals as goal

pub returns : goal.returns
returns c =
    let cells = c.cells-cells.result.now in
    subst (λ (v : Value). Grows (AreValueLines c.args.names.now c.args.a.0 v) c.args.out.now.items c.put_cells.new.out.items)
    (sym c.cells-cells.ensures.value)
    (element_lines c.args.names.now c.args.a.0 cells, (cells, c.cells-cells.ensures.ordered, refl, refl), c.in_ok-put_cells.ensures)
