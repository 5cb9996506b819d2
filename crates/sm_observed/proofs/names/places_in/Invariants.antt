-- The table has grown.
use Rattle.sm_term.specs.TableLaws.{AddsTerms}
use Rattle.sm_observed.proofs.names.places_in.Given as goal

abbrev pub invariant-loop-d : goal.invariant-loop-d
invariant-loop-d l = AddsTerms l.fn.table l.table
