use Rattle.sm_exact.proofs.Imports.{nat_eq, Some, ap, rules, ◌∙◌, get, Done, told, values_in}
use Rattle.sm_omega.specs.Equalities.{value_by}
use Rattle.sm_exact.proofs.GivingLemmas.{gives_value}
use Rattle.sm_exact.proofs.giving.give.Goals as goal

pub returns-in-Equation-clause-ok : goal.returns-in-Equation-clause-ok
returns-in-Equation-clause-ok c = λ limit depth n.
    ap (λ f. told limit depth f (Done n (Some (values_in (get nat_eq c.args.values.now))))) c.in-Equation.is
    ∙ gives_value (value_by c.in-Equation.t c.in-Equation.e) (get nat_eq c.put.new.values) (get nat_eq c.args.values.now) c.in-Equation.t
    _ c.in_ok-z-in-Equation.z n c.in_ok-z-in-Equation.ensures c.in_ok-put-in-Equation.ensures (search rules)
