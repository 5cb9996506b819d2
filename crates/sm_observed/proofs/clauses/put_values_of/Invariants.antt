-- The table has grown.
use Rattle.sm_term.specs.TableLaws.{AddsTerms}
use Rattle.sm_observed.proofs.clauses.put_values_of.Given as goal

abbrev pub invariant-loop-x : goal.invariant-loop-x
invariant-loop-x l = AddsTerms l.fn.table l.table
