-- A key that was met by the map before has its place there.
use Rattle.sm_cc.proofs.Imports.{sym, met_at}
use Rattle.sm_cc.proofs.RegroundingLemmas.{over_already}
use Rattle.sm_cc.proofs.regrounding.first_over.Goals as goal

pub returns-in-Some-clause-met : goal.returns-in-Some-clause-met
returns-in-Some-clause-met c = λ v.
    over_already (met_at c.args.base.now) (met_at c.args.met.now) c.args.key.items v.items c.args.place c.in-Some.first.now
    (sym c.in-Some.ensures.value)
