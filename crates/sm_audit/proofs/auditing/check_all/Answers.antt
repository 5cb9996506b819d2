-- The plan is ready over the last table, too.
use Rattle.sm_audit.proofs.Imports.{◌≡◌, OnTrue_at, numbered_plan, plan_ready}
use Rattle.sm_audit.proofs.WholeLemmas.{if_any}
use Rattle.sm_audit.proofs.auditing.check_all.Goals as goal

pub check_asked-requires-clause-plan : goal.check_asked-requires-clause-plan
check_asked-requires-clause-plan c = OnTrue_at c.if-not-is_plan_ready.false c.is_plan_ready.ensures

pub returns-clause-plan : goal.returns-clause-plan
returns-clause-plan c =
    if_any c.check_asked.result
    (plan_ready c.args.table.now c.check_asked.new.table c.check_asked.ensures.widens (numbered_plan c.args.plan.now)
    (OnTrue_at c.if-not-is_plan_ready.false c.is_plan_ready.ensures))
