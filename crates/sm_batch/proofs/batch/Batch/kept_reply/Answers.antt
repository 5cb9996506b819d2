use Rattle.sm_batch.proofs.Imports.{◌≡◌, ◌∙◌, sym, ap, subst, true, false, Some, None, parts_of, IsAccepted, is_hit, entry_of, entries_of}
use Rattle.sm_batch.proofs.EntryLemmas.{found_accepted}
use Rattle.sm_batch.proofs.LookupLemmas.{entry_found, hit_found}
use Rattle.sm_batch.proofs.batch.Batch.kept_reply.Goals as goal

pub returns-in_default-clause-hit : goal.returns-in_default-clause-hit
returns-in_default-clause-hit g c =
    let t = parts_of c.args.task.now in
    subst (λ v. false ≡ is_hit (g.W.Worker.takes v.worker) v.entries t) c.self.view_is
    (sym (hit_found c.self.inside.cache.entries t c.args.key.now.items c.requires.key None c.in_default.ensures (g.W.Worker.takes c.self.inside.worker)))

pub returns-in_ok-from_slice-clause-hit : goal.returns-in_ok-from_slice-clause-hit
returns-in_ok-from_slice-clause-hit g c =
    let t = parts_of c.args.task.now in
    let takes = g.W.Worker.takes c.self.inside.worker in
    subst (λ v. true ≡ is_hit (g.W.Worker.takes v.worker) v.entries t) c.self.view_is
    (sym c.if-branch.true ∙ c.in_ok-recheck.ensures ∙ ap (takes t) c.deref.ensures.value
    ∙ sym (hit_found c.self.inside.cache.entries t c.args.key.now.items c.requires.key (Some c.in-Some.kept.now) c.in-Some.ensures takes))

pub returns-in_ok-from_slice-clause-reply : goal.returns-in_ok-from_slice-clause-reply
returns-in_ok-from_slice-clause-reply g c =
    let t = parts_of c.args.task.now in
    let w = c.self.inside.worker in
    let entry = entry_found c.self.inside.cache.entries t c.args.key.now.items c.requires.key (Some c.in-Some.kept.now) c.in-Some.ensures in
    let found =
    found_accepted (g.W.Worker.replies w) (g.W.Worker.accepts w) (entries_of c.self.inside.cache.entries) c.self.invariant t c.requires.text
    (entry_of c.in-Some.kept.now) entry in
    let bytes = c.in_ok-from_slice.ensures.items ∙ c.deref-then-branch.ensures.value in
    subst (λ v. IsAccepted (g.W.Worker.replies v.worker) (g.W.Worker.accepts v.worker) t c.in_ok-from_slice.field-0.items) c.self.view_is
    (found.0, subst (g.W.Worker.replies w t) (sym bytes) found.1)

pub returns-else-branch-clause-hit : goal.returns-else-branch-clause-hit
returns-else-branch-clause-hit g c =
    let t = parts_of c.args.task.now in
    let takes = g.W.Worker.takes c.self.inside.worker in
    subst (λ v. false ≡ is_hit (g.W.Worker.takes v.worker) v.entries t) c.self.view_is
    (sym c.if-branch.false ∙ c.in_ok-recheck.ensures ∙ ap (takes t) c.deref.ensures.value
    ∙ sym (hit_found c.self.inside.cache.entries t c.args.key.now.items c.requires.key (Some c.in-Some.kept.now) c.in-Some.ensures takes))
