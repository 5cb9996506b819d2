use Rattle.sm_omega.specs.Exact.{exact}
use Rattle.sm_exact.proofs.line.has_no_solution.Goals as goal

pub returns : goal.returns
returns c = c.is_refuted.ensures c.args.forms.now (exact c.args.forms.now c.args.steps) c.in_ok-answer.ensures
