-- What each part says of the term.
use Rattle.sm_cc.proofs.Imports.{arith, trees_in, tree_at, HasTree}
use Rattle.sm_cc.proofs.RowsLemmas.{arguments_stand}
use Rattle.sm_cc.proofs.rows.row.Goals as goal

pub returns-clause-row : goal.returns-clause-row
returns-clause-row c = λ terms are.
    let table = c.args.table.now in
    let t = tree_at (trees_in table) c.args.t.0 in
    let term = c.get-term.result.now in
    let tree : HasTree table term t = record {
      place = c.args.t.0;
      inside = c.requires.there;
      within = c.get-term.ensures.before;
      fits = c.get-term.ensures.fits;
      tree = c.get-term.ensures.tree;
    } in
    record {
      term = term;
      tree = tree;
      arguments = arguments_stand table terms c.args.positions.now are term t tree (omega (arith, c.requires.there))
          c.in_ok-arguments.arguments.items c.in_ok-arguments.ensures;
      element = c.element-element.ensures terms are;
      head = c.in_ok-head.ensures.head;
      shape = c.in_ok-shape.ensures.shape;
    }
