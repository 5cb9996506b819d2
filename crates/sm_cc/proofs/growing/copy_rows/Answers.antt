use Rattle.sm_cc.proofs.Imports.{length, refl, arith, slice_get_read, IsCopy}
use Rattle.sm_cc.proofs.GrowingLemmas.{like_more, like_all}
use Rattle.sm_cc.proofs.growing.copy_rows.Goals as goal

pub loop-i-preserved : goal.loop-i-preserved
loop-i-preserved c =
    let old = c.args.old.now in
    let x = c.index-old-i.result in
    like_more IsCopy c.loop-i.i old c.loop-i.rows.items c.push.new.self.items x c.in_ok-row.row c.loop-i.invariant
    (slice_get_read old (length old) c.loop-i.i x refl (omega arith) c.index-old-i.is) c.in_ok-row.ensures c.in_ok-push.ensures.items

pub returns-clause-kept : goal.returns-clause-kept
returns-clause-kept c = like_all IsCopy c.loop-i.i c.args.old.now c.loop-i.rows.items c.loop-i.invariant (omega arith)
