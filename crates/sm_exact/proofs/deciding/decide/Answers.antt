-- What the answer tells of the decision says the rest.
use Rattle.sm_omega.specs.Exact.{exact}
use Rattle.sm_exact.proofs.AnswersLemmas.{tells_right, tells_variables, tells_line}
use Rattle.sm_exact.proofs.deciding.decide.Goals as goal

pub returns-clause-right : goal.returns-clause-right
returns-clause-right c =
    tells_right c.args.forms.now c.args.steps c.in_ok-answer.answer c.look_at.ensures c.in_ok-answer.ensures

pub returns-clause-variables : goal.returns-clause-variables
returns-clause-variables c =
    tells_variables c.args.forms.now (exact c.args.forms.now c.args.steps) c.in_ok-answer.answer c.in_ok-answer.ensures

pub returns-clause-line : goal.returns-clause-line
returns-clause-line c = tells_line c.args.forms.now c.args.steps c.in_ok-answer.answer c.in_ok-answer.ensures
