-- The table has grown.
use Rattle.sm_term.specs.TableLaws.{AddsTerms}
use Rattle.sm_observed.proofs.columns.put_inputs.Given as goal

abbrev pub invariant-loop-copy-2 : goal.invariant-loop-copy-2
invariant-loop-copy-2 l = AddsTerms l.fn.table l.table
