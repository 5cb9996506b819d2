-- The table has grown.
use Rattle.sm_term.specs.TableLaws.{AddsTerms}
use Rattle.sm_observed.proofs.affine.put_guarded.Given as goal

abbrev pub invariant-loop-guard : goal.invariant-loop-guard
invariant-loop-guard l = AddsTerms l.fn.table l.table
