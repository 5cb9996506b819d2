-- Forms that are no equations are passed.
use Rattle.std.proofs.Common.{sym, ◌∙◌, arith}
use Rattle.sm_exact.proofs.RowLemmas.{equation_later, equation_nowhere, finds_here}
use Rattle.sm_exact.proofs.equation.first_equation.Goals as goal

pub loop-place-preserved : goal.loop-place-preserved
loop-place-preserved c =
    equation_later c.args.forms.now c.loop-place.place c.index-forms-place.result c.loop-place-test.true c.index-forms-place.is
    (sym c.is_equation.ensures ∙ c.if-is_equation.false) c.loop-place.invariant

pub returns-then-is_equation-clause-found : goal.returns-then-is_equation-clause-found
returns-then-is_equation-clause-found c = λ _.
    finds_here c.args.forms.now c.loop-place.place c.index-forms-place.result c.loop-place-test.true c.index-forms-place.is
    (sym c.is_equation.ensures ∙ c.if-is_equation.true) c.loop-place.invariant

pub returns-then-is_equation-clause-none : goal.returns-then-is_equation-clause-none
returns-then-is_equation-clause-none c = λ past. let below = c.loop-place-test.true in absurd (omega arith)

pub returns-clause-none : goal.returns-clause-none
returns-clause-none c = λ _. equation_nowhere c.args.forms.now c.loop-place.place c.loop-place-test.false c.loop-place.invariant
