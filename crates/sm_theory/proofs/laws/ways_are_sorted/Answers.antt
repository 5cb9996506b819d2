use Rattle.sm_theory.proofs.laws.ways_are_sorted.Goals as goal
use Rattle.sm_theory.proofs.ArithmeticKept.{arithmetic_sorted}
use Rattle.sm_theory.proofs.TheoriesLemmas.{ways_are_sorted_from}

-- src/laws.rt:146:1
pub returns : goal.returns
returns c = ways_are_sorted_from arithmetic_sorted
