use Rattle.sm_batch.proofs.Imports.{sym, subst, AreAccepted, AreSafe, entries_of}
use Rattle.sm_batch.proofs.SettleLemmas.{accepted_looks, accepted_puts}
use Rattle.sm_batch.proofs.batch.Batch.settle.Goals as goal

pub invariant_of-self : goal.invariant_of-self
invariant_of-self g c =
    let w = c.self.inside.worker in
    let replies = g.W.Worker.replies w in
    let accepts = g.W.Worker.accepts w in
    let takes = g.W.Worker.takes w in
    let start = entries_of c.self.inside.cache.entries in
    let before = entries_of c.look_all.new.cache.entries in
    let after = entries_of c.put_all.new.cache.entries in
    accepted_puts replies accepts takes start c.look_all.new.cache.cap c.args.steps.items before after
    (subst (λ v. AreSafe (g.W.Worker.replies v.worker) (g.W.Worker.accepts v.worker) c.args.steps.items) (sym c.self.view_is) c.requires)
    c.put_all.ensures.entries
    (subst (AreAccepted replies accepts) (sym c.look_all.ensures.entries)
    (accepted_looks replies accepts takes start c.deref-2.result.now start c.self.invariant))
