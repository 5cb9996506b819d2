-- The table has grown.
use Rattle.sm_term.specs.TableLaws.{AddsTerms}
use Rattle.sm_observed.proofs.reads.+reads.Given as goal

abbrev pub invariant-put_block_reads-loop-s : goal.invariant-put_block_reads-loop-s
invariant-put_block_reads-loop-s l = AddsTerms l.fn.table l.table
