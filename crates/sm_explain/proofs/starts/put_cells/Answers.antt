-- Cell by cell.
use Rattle.sm_explain.proofs.Imports.{◌++◌, ℤ, pos, Element, start_line, element_lines}
use Rattle.sm_explain.proofs.Pieces.{pieces_more, pieces_all}
use Rattle.sm_explain.proofs.starts.put_cells.Goals as goal

pub loop-c-preserved : goal.loop-c-preserved
loop-c-preserved c =
    let names = c.args.names.now in
    pieces_more (λ (cell : ℤ × ℤ). start_line names (Element c.args.a.0 cell.0) cell.1) c.args.cells.now c.loop-c.c-index (pos 0, pos 0)
    c.loop-c.out.items c.put_cell_line.new.out.items (c.args.out.now.items ++ element_lines names c.args.a.0 c.args.cells.now)
    c.loop-c-test.true c.in_ok-put_cell_line.ensures c.loop-c.invariant

pub returns : goal.returns
returns c =
    let names = c.args.names.now in
    pieces_all (λ (cell : ℤ × ℤ). start_line names (Element c.args.a.0 cell.0) cell.1) c.args.cells.now c.loop-c.c-index
    c.loop-c.out.items (c.args.out.now.items ++ element_lines names c.args.a.0 c.args.cells.now)
    c.loop-c-test.false c.loop-c.invariant
