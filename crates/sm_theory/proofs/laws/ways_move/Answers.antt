use Rattle.sm_theory.proofs.laws.ways_move.Goals as goal
use Rattle.sm_theory.proofs.ArithmeticKept.{arithmetic_moves}
use Rattle.sm_theory.proofs.TheoriesLemmas.{ways_move_from}

-- src/laws.rt:156:1
pub returns : goal.returns
returns c = ways_move_from arithmetic_moves
