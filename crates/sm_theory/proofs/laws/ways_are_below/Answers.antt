use Rattle.sm_theory.proofs.laws.ways_are_below.Goals as goal
use Rattle.sm_theory.proofs.ArithmeticKept.{arithmetic_below}
use Rattle.sm_theory.proofs.TheoriesLemmas.{ways_are_below_from}

-- src/laws.rt:151:1
pub returns : goal.returns
returns c = ways_are_below_from arithmetic_below
