use Rattle.std.proofs.Common.{ℕ, ◌<◌, length, sym, subst, ◌∙◌, arith}
use Rattle.sm_certify.proofs.MarkedLemmas.{bad_below, sum_below, marked_next}
use Rattle.sm_certify.proofs.marks.mark_down.Goals as goal

pub mark-requires : goal.mark-requires
mark-requires c =
    subst (λ (n : ℕ). c.args.bad < n) (sym c.requires.count) (bad_below c.args.first c.args.elims.now c.args.bad c.requires.places)

pub mark_sum-requires-clause-first : goal.mark_sum-requires-clause-first
mark_sum-requires-clause-first c =
    (sum_below c.args.first c.args.elims.now c.args.bad c.loop-left.left (length c.loop-left.marks) _ c.requires.places
    c.loop-left-test.true c.loop-left.invariant.within c.loop-left.invariant.count).0

pub mark_sum-requires-clause-second : goal.mark_sum-requires-clause-second
mark_sum-requires-clause-second c =
    (sum_below c.args.first c.args.elims.now c.args.bad c.loop-left.left (length c.loop-left.marks) _ c.requires.places
    c.loop-left-test.true c.loop-left.invariant.within c.loop-left.invariant.count).1

pub loop-left-preserved : goal.loop-left-preserved
loop-left-preserved c =
    record {
      within = omega (arith, c.loop-left.invariant.within);
      count = c.mark_sum.ensures.count ∙ c.loop-left.invariant.count;
      marked =
          marked_next c.loop-left.marks c.mark_sum.new.marks c.args.first c.args.elims.now c.args.bad c.loop-left.left _
          c.requires.places c.loop-left-test.true c.loop-left.invariant.within c.mark_sum.ensures c.loop-left.invariant.marked;
    }
