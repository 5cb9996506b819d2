-- One place more, and then all.
use Rattle.sm_cc.proofs.Imports.{sym, subst, arith, ℕ, length, are_together, AreFirsts, met_at, alike_at}
use Rattle.sm_cc.proofs.FirstsLemmas.{alike_bring}
use Rattle.sm_cc.proofs.RegroundingLemmas.{exact_meet}
use Rattle.sm_cc.proofs.regrounding.alike_places.Goals as goal

pub loop-i-preserved : goal.loop-i-preserved
loop-i-preserved c =
    let old = c.args.c.now in
    c.in_ok-meet.ensures (alike_at old) (are_together old.roots.items) (length old.rows.items)
    (exact_meet alike_at old c.requires (alike_bring old)) (omega (arith, c.loop-i-test.true, c.len-i-end.ensures))
    (sym c.in_ok-key.ensures) c.loop-i.invariant

pub returns : goal.returns
returns c =
    let old = c.args.c.now in
    subst (λ (n : ℕ). AreFirsts (alike_at old) (are_together old.roots.items) (met_at c.loop-i.met) n)
    (omega (arith, c.loop-i-test.false, c.len-i-end.ensures, c.loop-i.auto.i-end)) c.loop-i.invariant
