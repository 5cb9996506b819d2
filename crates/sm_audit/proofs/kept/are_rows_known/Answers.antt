-- A node that is known, before others that are.
use Rattle.sm_audit.proofs.Imports.{sym, subst, OnTrue_at, drop_all, AreRowsKnown, IsRowKnown}
use Rattle.sm_audit.proofs.KnownLemmas.{row_before}
use Rattle.sm_audit.proofs.kept.are_rows_known.Goals as goal

pub loop-n-preserved : goal.loop-n-preserved
loop-n-preserved c = λ rest.
    c.loop-n.invariant
    (row_before c.args.since.now c.args.rows.now c.loop-n.n c.index-rows-n.result c.loop-n-test.true
    (subst (IsRowKnown c.args.since.now c.loop-n.n) c.index-rows-n.is (OnTrue_at c.if-not-is_row_known.false c.is_row_known.ensures))
    rest)

pub returns : goal.returns
returns c =
    c.loop-n.invariant
    (subst (AreRowsKnown c.args.since.now c.loop-n.n) (sym (drop_all c.loop-n.n c.args.rows.now c.loop-n-test.false)) tt)
