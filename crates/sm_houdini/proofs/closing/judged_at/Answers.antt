use Rattle.sm_houdini.proofs.Imports.{◌+◌, length, zero-add, sym, ap, ◌∙◌, length-append, widens_twice, forms_ready}
use Rattle.sm_houdini.proofs.ClosingLemmas.{judged_step}
use Rattle.sm_houdini.proofs.closing.judged_at.Goals as goal

pub stays-requires-clause-facts : goal.stays-requires-clause-facts
stays-requires-clause-facts c =
    forms_ready c.args.table.now c.loop-mark.table c.loop-mark.invariant.widens c.args.due.now.facts.list.items c.requires.facts

pub stays-requires-clause-goals : goal.stays-requires-clause-goals
stays-requires-clause-goals c =
    forms_ready c.args.table.now c.loop-mark.table c.loop-mark.invariant.widens c.args.due.now.targets.list.items c.requires.goals

pub returns-in_err-holds-clause-widens : goal.returns-in_err-holds-clause-widens
returns-in_err-holds-clause-widens c =
    widens_twice c.args.table.now c.loop-mark.table c.stays.new.table c.loop-mark.invariant.widens c.in_err-holds.ensures.widens

pub loop-mark-preserved : goal.loop-mark-preserved
loop-mark-preserved c =
    let inv = c.loop-mark.invariant in
    record {
      count = ap length c.in_ok-push.ensures.items ∙ length-append c.loop-mark.list.items _ ∙ ap (λ n. n + 1) inv.count;
      marks =
          judged_step c.args.table.now c.loop-mark.table inv.widens c.args.reach c.args.due.now c.requires.facts c.requires.goals
          0 c.push.new.self.items c.loop-mark.list.items c.args.marks.now c.loop-mark.mark-index _ _ c.in_ok-holds.holds
          c.in_ok-push.ensures.items c.in_ok-holds.ensures.stays (ap length c.as_slice.ensures.value ∙ inv.count ∙ sym (zero-add c.loop-mark.mark-index))
          c.loop-mark-test.true inv.marks;
      widens = widens_twice c.args.table.now c.loop-mark.table c.stays.new.table inv.widens c.in_ok-holds.ensures.widens;
      node = c.in_ok-holds.ensures.node;
    }
