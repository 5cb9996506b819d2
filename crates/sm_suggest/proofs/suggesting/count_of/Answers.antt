use Rattle.sm_suggest.proofs.ChoicesLemmas.{power_fits}
use Rattle.sm_suggest.proofs.suggesting.count_of.Goals as goal

pub pow-requires : goal.pow-requires
pow-requires c = power_fits c.args.holes c.requires
