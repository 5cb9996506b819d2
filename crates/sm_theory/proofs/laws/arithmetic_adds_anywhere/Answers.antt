use Rattle.sm_theory.proofs.laws.arithmetic_adds_anywhere.Goals as goal
use Rattle.sm_theory.proofs.ArithmeticKept.{arithmetic_moves}

-- src/laws.rt:31:1
pub returns : goal.returns
returns c = arithmetic_moves
