-- Cell by cell.
use Rattle.sm_explain.proofs.Imports.{◌++◌, ℤ, pos, Element, end_in, cell_rows, element_rows}
use Rattle.sm_explain.proofs.Pieces.{pieces_more, pieces_all}
use Rattle.sm_explain.proofs.tables.put_elements.Goals as goal

pub loop-i-preserved : goal.loop-i-preserved
loop-i-preserved c =
    let names = c.args.names.now in
    let end = end_in c.args.ends.now in
    pieces_more (λ (i : ℤ). cell_rows names end (Element c.args.a.0 i)) c.args.indices.now c.loop-i.i-index (pos 0)
    c.loop-i.out.items c.put_element.new.out.items (c.args.out.now.items ++ element_rows names end c.args.a.0 c.args.indices.now)
    c.loop-i-test.true c.in_ok-put_element.ensures c.loop-i.invariant

pub returns : goal.returns
returns c =
    let names = c.args.names.now in
    let end = end_in c.args.ends.now in
    pieces_all (λ (i : ℤ). cell_rows names end (Element c.args.a.0 i)) c.args.indices.now c.loop-i.i-index
    c.loop-i.out.items (c.args.out.now.items ++ element_rows names end c.args.a.0 c.args.indices.now)
    c.loop-i-test.false c.loop-i.invariant
