-- Each fact is over the terms that have forms.
use Rattle.std.proofs.Common.{length}
use Rattle.sm_judge.proofs.FactsWithinLemmas.{within_at}
use Rattle.sm_judge.proofs.linears.add_fact_forms.Goals as goal

pub comparison-requires : goal.comparison-requires
comparison-requires c =
    within_at (length c.args.forms.now) c.args.facts.now c.loop-i.i c.index-facts-i.result c.requires c.loop-i-test.true c.index-facts-i.is
