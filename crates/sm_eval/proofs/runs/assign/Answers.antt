use Rattle.sm_eval.proofs.Imports.{rules, ◌≡◌, ℤ, Some, sym, ap, ◌∙◌, to_z-of_z, w128, Value, put, expression_of, meaning}
use mir.Val.{SFits}
use Rattle.sm_syntax.specs.claim.Stores.{Number, Store}
use Rattle.sm_eval.proofs.Numbers.{sorted_number}
use Rattle.sm_eval.proofs.Turns.{answered}
use Rattle.sm_eval.proofs.runs.assign.Goals as goal

-- the expression has the number that was computed
pub returns-clause-end : goal.returns-clause-end
returns-clause-end c =
    let s = c.args.s.now in
    let x = c.args.x.0 in
    let e = expression_of c.args.e.now in
    let known = answered _ _ _ c.in_ok-z.ensures in
    let fits : SFits w128 c.in_ok-z.z = search rules in
    let written = simp to_z-of_z at c.set.ensures.value in
    ap (λ (v : Value). Some (put (meaning s) x v)) (sorted_number s e c.requires.1 ∙ ap (λ (z : ℤ). Number z) (sym known.1)) ∙
    ap (λ (u : Store). Some u) (sym written)
