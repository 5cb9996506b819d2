-- A row names earlier ones.
use Rattle.std.proofs.Common.{◌+◌}
use Rattle.sm_check.proofs.kept.+formula_of.Given as goal

abbrev pub decreases-boxed_formula : goal.decreases-boxed_formula
decreases-boxed_formula l = l.n + l.n + 1

abbrev pub decreases-formula_of : goal.decreases-formula_of
decreases-formula_of l = l.n + l.n
