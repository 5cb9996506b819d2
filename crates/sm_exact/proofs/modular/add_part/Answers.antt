-- The sum fits: the part goes behind the others.
use Rattle.sm_exact.proofs.Imports.{ℤ, pos, subst, IsKept, Eq, combined, Returns}
use Rattle.sm_exact.proofs.ModularLemmas.{with_last, same_bits, sum_behind, gives_behind}
use Rattle.sm_exact.proofs.modular.add_part.Goals as goal

pub returns-in-Ok : goal.returns-in-Ok
returns-in-Ok c =
    let kept = subst IsKept c.d.view_is c.d.invariant in
    gives_behind (with_last c.args.d c.args.u c.args.q.now) (combined c.args.d (pos 1) c.in-Ok.f c.args.q.now Eq) c.combine.result
    c.sum_of.result
    (sum_behind c.args.d c.in-Ok.f c.args.u c.args.q.now kept c.requires.above c.requires.range c.in-Ok.ensures.ok)
    (subst (λ (q : ℤ). Returns (combined c.args.d (pos 1) c.in-Ok.f q Eq) c.combine.result) (same_bits c.args.q.now c.requires.range)
    c.combine.ensures)
    c.sum_of.ensures
