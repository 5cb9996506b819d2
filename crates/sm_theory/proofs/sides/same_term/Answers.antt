use Rattle.sm_theory.proofs.Imports.{◌∙◌, trees_in}
use Rattle.sm_theory.proofs.SidesLemmas.{numbers_tell}
use Rattle.sm_theory.proofs.sides.same_term.Goals as goal

pub returns-clause-term : goal.returns-clause-term
returns-clause-term c = λ v w. c.eq.ensures ∙ numbers_tell (trees_in c.args.table.now) c.len.ensures.apart c.args.t.0 c.args.u.0 v w
