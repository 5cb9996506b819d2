use Rattle.sm_term.proofs.laws.holds_is_stable.Goals as goal
use Rattle.sm_term.proofs.AssertionsLemmas.{stable}

-- src/laws.rt:23:1
pub returns : goal.returns
returns c = stable
