-- The form is kept, so the number 1 is added to its constant.
use Rattle.sm_judge.proofs.Imports.{pos, subst, Linear, Kind, Outcome, combined, Returns, constant_form}
use Rattle.std.proofs.Common.{ℕ}
use Rattle.sm_judge.proofs.linears.one_more.Goals as goal
use Rattle.sm_theory.proofs.OneMore.{combined_one}

pub returns : goal.returns
returns c =
    let f = c.args.f.now in
    let kind : Returns (combined f (pos 1) c.in_ok-one.one (pos 1) f.kind) c.combine.result =
    subst (λ (k : Kind). Returns (combined f (pos 1) c.in_ok-one.one (pos 1) k) c.combine.result) c.kind.ensures c.combine.ensures in
    let one : Returns (combined f (pos 1) (constant_form (pos 1)) (pos 1) f.kind) c.combine.result =
    subst (λ (g : Linear ℕ). Returns (combined f (pos 1) g (pos 1) f.kind) c.combine.result) c.in_ok-one.ensures.ok kind in
    subst (λ (o : Outcome (Linear ℕ)). Returns o c.combine.result) (combined_one f c.parts-count.ensures.kept) one
