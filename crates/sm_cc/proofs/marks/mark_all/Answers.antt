use Rattle.std.proofs.Common.{◌<◌, ℕ, length, subst, sym, get_or}
use Rattle.sm_cc.proofs.MarksLemmas.{below_at, marks_push}
use Rattle.sm_cc.proofs.marks.mark_all.Goals as goal

pub mark-requires : goal.mark-requires
mark-requires c =
    subst (λ (l : ℕ). get_or c.args.numbers.now c.loop-n.n-index 0 < l) (sym c.loop-n.auto.marks)
    (below_at (length c.args.marks.now) c.args.numbers.now c.loop-n.n-index c.requires c.loop-n-test.true)

pub loop-n-preserved : goal.loop-n-preserved
loop-n-preserved c =
    marks_push c.args.marks.now c.loop-n.marks c.mark.new.marks c.args.numbers.now c.loop-n.n-index c.loop-n.invariant c.loop-n-test.true
    c.mark.ensures
