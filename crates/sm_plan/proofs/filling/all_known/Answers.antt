-- A part that isn't known stands among the parts.
use Rattle.sm_plan.proofs.Imports.{rules, ℕ, sym, nat_eq, get, AreBefore}
use Rattle.sm_plan.proofs.FillingLemmas.{arg_before, known_push}
use Rattle.sm_plan.proofs.filling.all_known.Goals as goal

pub returns-in-None : goal.returns-in-None
returns-in-None c = (
  λ (n : ℕ) (w : AreBefore n c.args.parts.now). arg_before c.args.parts.now c.loop-part.part-index _
      c.loop-part-test.true n w,
  search rules,
)

pub loop-part-preserved : goal.loop-part-preserved
loop-part-preserved c =
    known_push (get nat_eq c.args.known.now) c.args.parts.now c.loop-part.list.items c.push.new.self.items c.loop-part.part-index _
    c.in-Some.t.now
    c.loop-part-test.true (sym c.in-Some.ensures.value) c.loop-part.invariant c.in_ok-push-in-Some.ensures.items
