-- The branch that is due has as many facts as the walk counts.
use Rattle.sm_check.specs.Checkers.{IsAt}
use Rattle.sm_check.proofs.checker.Checker.facts.Goals as goal

pub returns : goal.returns
unfolding IsAt
returns c = λ s exact p at. c.facts.ensures p at.2.1
