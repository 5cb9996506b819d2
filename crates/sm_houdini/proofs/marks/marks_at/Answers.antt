use Rattle.sm_houdini.proofs.Imports.{◌≤◌, length, refl, ap, ◌∙◌, arith, take_all, marked, in_share}
use Rattle.sm_houdini.proofs.MarkedLemmas.{mark_put}
use Rattle.sm_houdini.proofs.marks.marks_at.Goals as goal

pub loop-at-preserved : goal.loop-at-preserved
loop-at-preserved c =
    mark_put (in_share c.args.shares c.args.share) c.push.new.self.items c.loop-at.list.items c.args.numbers.now c.loop-at.at _ _
    c.in_ok-push.ensures.items refl c.loop-at-test.true c.loop-at.invariant

pub returns : goal.returns
returns c =
    let ns = c.args.numbers.now in
    let all : length ns ≤ c.loop-at.at = omega (arith, c.loop-at-test.false) in
    c.loop-at.invariant ∙ ap (marked (in_share c.args.shares c.args.share) 0) (take_all c.loop-at.at ns all)
