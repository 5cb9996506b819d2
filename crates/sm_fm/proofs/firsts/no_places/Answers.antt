use Rattle.sm_fm.proofs.FirstLemmas.{nothing_more}
use Rattle.sm_fm.proofs.firsts.no_places.Goals as goal

pub loop-atom-preserved : goal.loop-atom-preserved
loop-atom-preserved c =
    nothing_more c.loop-atom.firsts.items c.push.new.self.items c.new.result c.loop-atom._atom c.in_ok-push.ensures.items
    c.new.ensures.items c.loop-atom.invariant
