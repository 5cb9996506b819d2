-- The terms are over the declared names, and each line is shorter than what is left.
use Rattle.std.proofs.Common.{◌≡◌, length}
use Rattle.sm_check.specs.Checkers.{sorts_known}
use Rattle.sm_load.proofs.loading.lines_gathered.Given as goal

abbrev pub invariant-loop-left : goal.invariant-loop-left
invariant-loop-left l = sorts_known l.checker ≡ sorts_known l.initial.checker

abbrev pub decreases-loop-left : goal.decreases-loop-left
decreases-loop-left l = length l.left
