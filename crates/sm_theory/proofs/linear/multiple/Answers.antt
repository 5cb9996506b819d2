-- A multiple is a sum with nothing.
use Rattle.sm_theory.proofs.Imports.{ℕ, ℤ, pos, rules, sym, subst, to_z-of_z, Linear, Outcome, combined, constant_form, scaled_form}
use Rattle.std.specs.Int.{w128}
use mir.Val.{SFits}
use Rattle.sm_num.specs.declared.kind.Kind.TheVariants.{Eq}
use Rattle.sm_num.specs.Errors.{Returns}
use Rattle.sm_theory.proofs.LinearNumbers.{scaled_is_combined}
use Rattle.sm_theory.proofs.linear.multiple.Goals as goal

pub returns : goal.returns
returns c =
    let z = c.args.z.now in
    let f = c.args.f.now in
    let fits : SFits w128 z = search rules in
    let exact : Returns (combined c.in_ok-zero.zero (pos 0) f z Eq) c.combine.result =
    subst (λ (y : ℤ). Returns (combined c.in_ok-zero.zero (pos 0) f y Eq) c.combine.result) (to_z-of_z w128 z fits) c.combine.ensures in
    let nothing : Returns (combined (constant_form (pos 0)) (pos 0) f z Eq) c.combine.result =
    subst (λ (g : Linear ℕ). Returns (combined g (pos 0) f z Eq) c.combine.result) c.in_ok-zero.ensures exact in
    c.or_atom.ensures (scaled_form z f)
    (subst (λ (o : Outcome (Linear ℕ)). Returns o c.combine.result) (sym (scaled_is_combined z f)) nothing)
