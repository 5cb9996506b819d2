-- The rule of an equation that brings a new variable.
use Rattle.sm_exact.proofs.Imports.{◌≡◌, suc, sym, ap, ◌∙◌, arith, remove, answer_of, told, Equation}
use Rattle.sm_exact.proofs.StepLemmas.{modular_step}
use Rattle.sm_exact.proofs.equation.by_modular.Goals as goal

pub returns : goal.returns
returns c = λ depth.
    let part = c.args.part.now in
    let e = c.index-2.result.now in
    let next : suc c.args.s ≡ c.in-Some.next = omega (arith, c.in-Some.ensures) in
    modular_step c.args.steps depth c.args.s c.args.forms.items (remove c.args.forms.items c.args.place) c.args.count e c.in_ok-d.d part
    c.in_ok-entry.entry (c.requires.finds.found e c.index-2.ensures) (c.requires.part.least e c.index-2.ensures) c.requires.many
    c.in_ok-d.ensures c.in_ok-entry.ensures
    ∙ ap (λ n. told c.args.steps depth (Equation part.0 c.in_ok-d.d) (answer_of c.args.steps depth n c.in_ok-entry.entry)) next
