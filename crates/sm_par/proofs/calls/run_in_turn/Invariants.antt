-- Each number before the offset has its result.
use Rattle.sm_par.specs.Results.{MayGive, StandInOrder}
use Rattle.sm_par.proofs.calls.run_in_turn.Given as goal

abbrev pub invariant-calls : goal.invariant-calls
invariant-calls g l = StandInOrder (MayGive g.F.Fn l.call) l.part.start l.offset l.results.items
