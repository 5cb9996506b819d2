-- The plan that was tested is ready.
use Rattle.std.proofs.lemmas.Bool.{OnTrue_at}
use Rattle.sm_deeper.proofs.rounds.asked_by.Goals as goal

pub obligations_of-requires-clause-plan : goal.obligations_of-requires-clause-plan
obligations_of-requires-clause-plan c = OnTrue_at c.if-not-is_plan_ready.false c.is_plan_ready.ensures
