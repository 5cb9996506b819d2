-- The sum with the number 1.
use Rattle.sm_lia.proofs.Imports.{ℕ, pos, subst, Linear, IsKept, Outcome, combined, Returns, constant_form}
use Rattle.sm_num.specs.declared.kind.Kind.{Kind}
use Rattle.sm_lia.proofs.subtracting.one_more.Goals as goal
use Rattle.sm_theory.proofs.OneMore.{combined_one}

pub returns : goal.returns
returns c = λ (kept : IsKept c.args.f.now).
    let f = c.args.f.now in
    let kind : Returns (combined f (pos 1) c.in_ok-one.one (pos 1) f.kind) c.combine.result =
    subst (λ (k : Kind). Returns (combined f (pos 1) c.in_ok-one.one (pos 1) k) c.combine.result) c.kind.ensures c.combine.ensures in
    let one : Returns (combined f (pos 1) (constant_form (pos 1)) (pos 1) f.kind) c.combine.result =
    subst (λ (g : Linear ℕ). Returns (combined f (pos 1) g (pos 1) f.kind) c.combine.result) c.in_ok-one.ensures.ok kind in
    subst (λ (o : Outcome (Linear ℕ)). Returns o c.combine.result) (combined_one f kept) one
