-- Each turn lists the next number.
use Rattle.std.proofs.Common.{◌≡◌, refl, arith}
use Rattle.sm_houdini.proofs.EndJobsLemmas.{number_more, numbers_put}
use Rattle.sm_houdini.proofs.end_jobs.numbers_with.Goals as goal

pub loop-n-preserved : goal.loop-n-preserved
loop-n-preserved c =
    number_more c.loop-n.list.items c.push.new.self.items _ c.loop-n.n c.loop-n.invariant refl c.in_ok-push.ensures.items

pub returns : goal.returns
returns c =
    let all : c.loop-n.n ≡ c.args.from = omega arith in
    numbers_put c.loop-n.list.items c.extend_from_slice.new.self.items c.args.others.now c.loop-n.n c.args.from c.loop-n.invariant all
    c.in_ok-extend_from_slice.ensures.items
