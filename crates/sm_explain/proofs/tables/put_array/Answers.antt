-- The lines at all indices are those at which the ends differ.
use Rattle.sm_explain.proofs.Imports.{sym, subst, end_in, Rise, element_rows}
use Rattle.sm_explain.proofs.DifferentCells.{Covers, are_rows}
use Rattle.sm_explain.proofs.tables.put_array.Goals as goal

pub returns : goal.returns
returns c =
    let names = c.args.names.now in
    let end = end_in c.args.ends.now in
    let all = c.deref.result.now in
    let same = sym c.deref.ensures.value in (
      element_rows names end c.args.a.0 all,
      are_rows names end c.args.a.0 all (subst Rise same c.in_ok-indices.ensures.rise)
          (subst (Covers end c.args.a.0) same c.in_ok-indices.ensures.each),
      c.in_ok-put_elements.ensures,
    )
