-- What waited first, over the tables that widen.
use Rattle.sm_candidates.proofs.Imports.{subst, AreWaitingReady}
use Rattle.sm_candidates.proofs.WaitsLemmas.{one_stays, all_stay, without_last}
use Rattle.sm_candidates.proofs.candidates.take_next.Goals as goal

pub put_site-requires-clause-state : goal.put_site-requires-clause-state
put_site-requires-clause-state c =
    let v = c.args.table.now in
    (without_last v c.pop.new.self.items c.in-Some.next (subst (AreWaitingReady v) c.in-Some.ensures.items c.requires.waiting)).1.state

pub take_node-requires-clause-next : goal.take_node-requires-clause-next
take_node-requires-clause-next c =
    let v = c.args.table.now in
    one_stays v c.put_site.new.table c.in_ok-put_site.ensures c.in-Some.next
    (without_last v c.pop.new.self.items c.in-Some.next (subst (AreWaitingReady v) c.in-Some.ensures.items c.requires.waiting)).1

pub take_node-requires-clause-waiting : goal.take_node-requires-clause-waiting
take_node-requires-clause-waiting c =
    let v = c.args.table.now in
    all_stay v c.put_site.new.table c.in_ok-put_site.ensures c.pop.new.self.items
    (without_last v c.pop.new.self.items c.in-Some.next (subst (AreWaitingReady v) c.in-Some.ensures.items c.requires.waiting)).0
