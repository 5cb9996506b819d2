-- The last frame gives its variable a value, or leaves the range.
use Rattle.sm_exact.proofs.Imports.{nat_eq, Some, subst, get, err_from_is_err_and, Done, Awaits, values_in}
use Rattle.sm_exact.proofs.GivingLemmas.{leads_on, fails_on}
use Rattle.sm_exact.proofs.giving.give_all.Goals as goal

pub loop-frame-preserved : goal.loop-frame-preserved
loop-frame-preserved c = λ limit n whole waits.
    let v = values_in (get nat_eq c.loop-frame.values) in
    let w = values_in (get nat_eq c.give.new.values) in
    leads_on limit n c.pop.new.self.items c.in-Some.frame v w whole c.in_ok-give.ensures.ok
    (subst (λ l. Awaits limit l (Done n (Some v)) whole) c.in-Some.ensures.items (c.loop-frame.invariant limit n whole waits))

pub returns-in_err-give-clause-err : goal.returns-in_err-give-clause-err
returns-in_err-give-clause-err c =
    let v = values_in (get nat_eq c.loop-frame.values) in
    let p = err_from_is_err_and c.from_residual.result c.from_residual.ensures.1 in
    rw (p.1, p.2)
    (λ limit n whole waits.
    fails_on limit n c.pop.new.self.items c.in-Some.frame v whole c.in_err-give.field-0.0 c.in_err-give.ensures.err
    (subst (λ l. Awaits limit l (Done n (Some v)) whole) c.in-Some.ensures.items (c.loop-frame.invariant limit n whole waits)))
