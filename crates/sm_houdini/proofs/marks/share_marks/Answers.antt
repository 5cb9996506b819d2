use Rattle.sm_houdini.specs.Marks.{in_share}
use Rattle.sm_houdini.proofs.MarkedLemmas.{site_put}
use Rattle.sm_houdini.proofs.marks.share_marks.Goals as goal

pub loop-numbers-preserved : goal.loop-numbers-preserved
loop-numbers-preserved c =
    site_put (in_share c.args.shares c.args.share) c.push.new.self.items c.loop-numbers.sites.items c.in_ok-marks_at.field-0
    c.deref-numbers-items.result.now c.loop-numbers.numbers-index c.numbers-item.result c.deref.result.now
    c.in_ok-push.ensures.items c.in_ok-marks_at.ensures c.deref.ensures.value c.loop-numbers-test.true c.numbers-item.is
    c.loop-numbers.invariant
