use Rattle.sm_suggest.proofs.FitCombinations.{combinations_are_fit}
use Rattle.sm_suggest.proofs.laws.combinations_are_fit.Goals as goal

pub returns : goal.returns
returns c = combinations_are_fit
