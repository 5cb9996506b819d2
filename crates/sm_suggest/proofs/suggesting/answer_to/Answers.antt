use Rattle.sm_suggest.proofs.FirstLemmas.{answered}
use Rattle.sm_suggest.proofs.suggesting.answer_to.Goals as goal

pub returns : goal.returns
returns g c = answered g.F.Fn c.args.decide.now c.args.task c.decide.result c.decide.ensures
