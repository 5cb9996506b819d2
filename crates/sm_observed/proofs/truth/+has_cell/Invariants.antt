-- The parts of a term stand before it.
use Rattle.sm_observed.proofs.truth.+has_cell.Given as goal

abbrev pub decreases-has_cell : goal.decreases-has_cell
decreases-has_cell l = l.t.0
