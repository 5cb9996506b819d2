-- The table has grown.
use Rattle.sm_term.specs.TableLaws.{AddsTerms}
use Rattle.sm_observed.proofs.sums.side.Given as goal

abbrev pub invariant-loop-column : goal.invariant-loop-column
invariant-loop-column l = AddsTerms l.fn.table l.table
