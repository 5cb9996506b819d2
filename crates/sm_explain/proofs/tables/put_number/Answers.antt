use Rattle.sm_explain.proofs.Imports.{refl, Scalar, end_in, cell_rows}
use Rattle.sm_explain.proofs.tables.put_number.Goals as goal

pub returns : goal.returns
returns c = (cell_rows c.args.names.now (end_in c.args.ends.now) (Scalar c.args.x.0), refl, c.in_ok-put_rows.ensures)
