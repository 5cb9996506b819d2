use Rattle.sm_theory.proofs.laws.some_way_holds.Goals as goal
use Rattle.sm_theory.proofs.ArithmeticSound.{arithmetic_holds}
use Rattle.sm_theory.proofs.TheoriesLemmas.{some_way_holds_from}

-- src/laws.rt:141:1
pub returns : goal.returns
returns c = some_way_holds_from arithmetic_holds
