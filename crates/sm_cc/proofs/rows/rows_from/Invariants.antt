-- The rows of the first terms from the place on.
use Rattle.sm_cc.proofs.Imports.{◌≡◌, ◌+◌, length, trees_in, IsFurther, AreRowsFrom}
use Rattle.sm_cc.specs.Views.{trees_of}
use Rattle.sm_cc.proofs.rows.rows_from.Given as goal

abbrev pub invariant-loop-i : goal.invariant-loop-i
invariant-loop-i l = record {
  further : IsFurther l.fn.numbering l.numbering;
  count : l.from + length l.rows.items ≡ l.i;
  rows : AreRowsFrom l.table (trees_of (trees_in l.table) l.terms) l.numbering l.from l.rows.items;
}
