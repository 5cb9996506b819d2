use Rattle.sm_exact.proofs.Imports.{subst, refl, arith, add-one, IfOk-weaker, Awaits}
use Rattle.sm_exact.proofs.SplintersLemmas.{left_none, stands_next}
use Rattle.sm_exact.proofs.splinters.next_splinter.Goals as goal

pub returns-then-tried-eq0 : goal.returns-then-tried-eq0
returns-then-tried-eq0 c =
    IfOk-weaker c.next_bound.result _ _
    (λ e stands depth whole waits. stands c.args.steps depth whole
    (subst (λ a. Awaits c.args.steps c.args.frames.now.items a whole)
    (left_none c.args.steps depth c.args.tried c.args.count c.if-tried-eq0.true) waits))
    c.next_bound.ensures

pub returns : goal.returns
returns c = λ depth whole waits.
    stands_next c.args.steps c.args.frames.now.items c.push.new.self.items c.args.tried _ c.args.count depth c.in_ok-entry.entry whole
    c.in_ok-push.ensures.items refl refl refl refl (omega arith) (add-one c.args.tried.next) refl c.in_ok-entry.ensures waits
