-- The rule of an equation with a coefficient 1 or -1.
use Rattle.std.proofs.Common.{Some, arith, sym, ap, ◌∙◌}
use Rattle.sm_exact.proofs.StepLemmas.{unit_step}
use Rattle.sm_exact.proofs.equation.by_unit.Goals as goal

pub remove-e-requires : goal.remove-e-requires
remove-e-requires c = let within = c.requires.finds.within in omega (arith, c.args.forms.ok.0)

pub returns : goal.returns
returns c = λ depth.
    unit_step c.args.steps depth c.args.s c.args.forms.items c.remove-e.new.self.items c.args.count c.remove-e.result c.args.part.now
    c.in_ok-entry.entry
    (c.requires.finds.found c.remove-e.result c.remove-e.ensures.value
    ∙ ap (λ l. Some (c.remove-e.result, l)) (sym c.remove-e.ensures.items))
    (c.requires.part.least c.remove-e.result c.remove-e.ensures.value) c.requires.unit c.in_ok-entry.ensures
