-- Where all three tests pass, the three parts make Keeps.
use Rattle.sm_syntax.proofs.Imports.{rules, refl, KeepsChange, AddsNothing}
use Rattle.sm_syntax.proofs.cell.keeps.Goals as goal

pub returns-else-not-adds_nothing-clause-kept : goal.returns-else-not-adds_nothing-clause-kept
returns-else-not-adds_nothing-clause-kept c =
    let first : KeepsChange c.args.base c.args.a c.args.candidate = search rules in
    let second : KeepsChange c.args.base c.args.b c.args.candidate = search rules in
    let third : AddsNothing c.args.base c.args.a c.args.b c.args.candidate = search rules in
    (λ _. record { change_of_a = first; change_of_b = second; no_other = third }, λ _. refl)
