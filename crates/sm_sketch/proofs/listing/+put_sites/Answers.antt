-- The sites of a node come before those of the sketches below it.
use Rattle.sm_sketch.proofs.Imports.{shared_forms, ◌∙◌}
use Rattle.sm_sketch.proofs.SitesListed.{fork_listed, block_listed, loop_listed, end_listed, behind, push_shared, listed_more, listed_all}
use Rattle.sm_sketch.proofs.listing.+put_sites.Goals as goal
use Rattle.sm_lemmas.proofs.Options.{on_ok}

pub put_all-loop-sketch-preserved : goal.put_all-loop-sketch-preserved
put_all-loop-sketch-preserved t c =
    listed_more (shared_forms c.args.list.now.items) (shared_forms c.loop-sketch.list.items) (shared_forms c.put_sites.new.list.items)
    c.deref-sketch-items.result.now c.loop-sketch.sketch-index c.sketch-item.result c.loop-sketch.invariant c.in_ok-put_sites.ensures
    c.loop-sketch-test.true c.sketch-item.is

pub put_all-returns : goal.put_all-returns
put_all-returns t c =
    listed_all (shared_forms c.args.list.now.items) (shared_forms c.loop-sketch.list.items) c.deref-sketch-items.result.now
    c.loop-sketch.sketch-index c.args.sketches.now c.loop-sketch.invariant c.loop-sketch-test.false c.deref-sketch-items.ensures.value

pub put_sites-returns-in_ok-put_sites-in-Fork : goal.put_sites-returns-in_ok-put_sites-in-Fork
put_sites-returns-in_ok-put_sites-in-Fork t c =
    let l = c.in-Fork in
    let a = shared_forms c.args.list.now.items in
    let b = shared_forms c.put_sites.new.list.items in
    let d = shared_forms c.put_sites-in-Fork.new.list.items in
    on_ok c.put_sites-in-Fork.result
    (λ e. fork_listed c.args.sketch.now a l.copy l.one l.other b d l.is (c.in_ok-put_sites-in-Fork.ensures ∙ behind a c.deref.ensures)
    (e ∙ behind b c.deref-in-Fork.ensures))
    c.put_sites-in-Fork.ensures

pub put_sites-returns-in_ok-put_all-in-Loop : goal.put_sites-returns-in_ok-put_all-in-Loop
put_sites-returns-in_ok-put_all-in-Loop t c =
    let l = c.in-Loop in
    let old = c.args.list.now.items in
    let new = c.push.new.self.items in
    let d = shared_forms c.put_all.new.list.items in
    let here = push_shared old new c.in_ok-clone-in-Loop.field-0 l.templates c.in_ok-push-in-Loop.ensures.items
    c.in_ok-clone-in-Loop.ensures.cases in
    on_ok c.put_sites-in-Loop.result
    (λ e. loop_listed c.args.sketch.now (shared_forms old) l.set l.templates l.turns l.after (shared_forms new) d
    (shared_forms c.put_sites-in-Loop.new.list.items) l.is here c.in_ok-put_all-in-Loop.ensures (e ∙ behind d c.deref-in-Loop.ensures))
    c.put_sites-in-Loop.ensures

pub put_sites-returns-in_ok-put_sites-in-Block : goal.put_sites-returns-in_ok-put_sites-in-Block
put_sites-returns-in_ok-put_sites-in-Block t c =
    let l = c.in-Block in
    let old = c.args.list.now.items in
    let new = c.push-in-Block.new.self.items in
    let b = shared_forms new in
    let d = shared_forms c.put_sites-in-Block.new.list.items in
    let here = push_shared old new c.in_ok-clone-in-Block.field-0 l.templates c.in_ok-push-in-Block.ensures.items
    c.in_ok-clone-in-Block.ensures.cases in
    on_ok c.put_sites-in-Block-2.result
    (λ e. block_listed c.args.sketch.now (shared_forms old) l.k0 l.k1 l.k2 l.k3 l.templates l.inner l.after b d
    (shared_forms c.put_sites-in-Block-2.new.list.items) l.is here
    (c.in_ok-put_sites-in-Block.ensures ∙ behind b c.deref-in-Block.ensures) (e ∙ behind d c.deref-in-Block-2.ensures))
    c.put_sites-in-Block-2.ensures

pub put_sites-returns-in-End : goal.put_sites-returns-in-End
put_sites-returns-in-End t c = end_listed c.args.sketch.now (shared_forms c.args.list.now.items) c.in-End.is
