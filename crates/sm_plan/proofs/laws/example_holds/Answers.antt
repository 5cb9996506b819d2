use Rattle.sm_plan.proofs.laws.example_holds.Goals as goal
use Rattle.sm_plan.specs.Example.{example_task, example_plan, example_dues}
use Rattle.sm_plan.proofs.PlanSound.{plan_conflict_free}
use Rattle.sm_plan.proofs.ExampleLemmas.{example_fresh, example_obligations, example_discharged}

-- the law on plans, at this one
pub returns : goal.returns
returns c = (
  example_fresh,
  example_obligations,
  example_discharged,
  plan_conflict_free example_task example_plan example_dues example_fresh example_obligations example_discharged,
)
