-- The nodes from here on decide.
use Rattle.sm_audit.proofs.Imports.{drop, AreRowsKnown}
use Rattle.sm_audit.proofs.kept.are_rows_known.Given as goal

abbrev pub invariant-loop-n : goal.invariant-loop-n
invariant-loop-n l = AreRowsKnown l.since l.n (drop l.n l.rows) → AreRowsKnown l.since 0 l.rows
