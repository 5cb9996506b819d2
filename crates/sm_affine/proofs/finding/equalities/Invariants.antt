-- Each equality so far holds at each row, and gives one of the columns.
use Rattle.std.specs.Prelude.{All}
use Rattle.sm_affine.specs.Equalities.{HoldsInEach, GivesOneOf}
use Rattle.sm_affine.proofs.finding.equalities.Given as goal

abbrev pub invariant-loop-column : goal.invariant-loop-column
invariant-loop-column l = record {
  hold : All (HoldsInEach l.rows) l.list.items;
  gives : All (GivesOneOf l.first l.last) l.list.items;
}
