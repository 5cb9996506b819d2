use Rattle.sm_suggest.proofs.Imports.{subst, sym, parts_of, combination, IsFit}
use Rattle.sm_suggest.proofs.FirstLemmas.{answered_at}
use Rattle.sm_suggest.proofs.FitCombinations.{combinations_are_fit}
use Rattle.sm_suggest.proofs.suggesting.is_accepted.Goals as goal

pub answer_to-requires-clause-fit : goal.answer_to-requires-clause-fit
answer_to-requires-clause-fit g c =
    subst IsFit (sym c.in_ok-combined.ensures) (combinations_are_fit (parts_of c.args.task.now) c.args.k c.requires.fit)

pub returns : goal.returns
returns g c =
    answered_at g.F.Fn c.args.decide.now (combination (parts_of c.args.task.now) c.args.k) c.in_ok-combined.combined c.answer_to.result
    c.in_ok-combined.ensures c.answer_to.ensures
