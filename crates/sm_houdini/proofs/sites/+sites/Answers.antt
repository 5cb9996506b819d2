-- The site of a node comes before those of the sketches below it.
use Rattle.std.proofs.Common.{◌≤◌, length, arith}
use Rattle.sm_houdini.proofs.SitesLemmas.{sketch_put, fork_put, loop_put, block_put, next_put, all_put}
use Rattle.sm_lemmas.proofs.Options.{on_ok}
use Rattle.sm_houdini.proofs.sites.+sites.Goals as goal

pub add_sketch-returns : goal.add_sketch-returns
add_sketch-returns t c = λ sorts trees.
    on_ok c.add_end.result
    (sketch_put sorts trees c.args.sketch.now c.args.sites.now c.add_end.new.sites c.add_straight.new.owners c.args.target
    c.in_ok-add_straight.ensures)
    (c.add_end.ensures sorts trees)

pub add_end-returns-in_ok-add_sketch-in-Fork : goal.add_end-returns-in_ok-add_sketch-in-Fork
add_end-returns-in_ok-add_sketch-in-Fork t c = λ sorts trees.
    let l = c.in-Fork in
    on_ok c.add_sketch-in-Fork.result
    (fork_put sorts trees c.args.last.now l.copy l.one l.other c.deref.result.now c.deref-in-Fork.result.now c.args.target
    c.args.sites.now c.add_sketch.new.sites c.add_sketch-in-Fork.new.sites c.push.new.self l.is c.deref.ensures
    c.deref-in-Fork.ensures c.in_ok-push-in-Fork.ensures.items (c.in_ok-add_sketch-in-Fork.ensures sorts trees))
    (c.add_sketch-in-Fork.ensures sorts trees)

pub add_end-returns-in_ok-add_all-in-Loop : goal.add_end-returns-in_ok-add_all-in-Loop
add_end-returns-in_ok-add_all-in-Loop t c = λ sorts trees.
    let l = c.in-Loop in
    on_ok c.add_sketch-in-Loop.result
    (loop_put sorts trees c.args.last.now l.set l.templates l.turns l.after c.deref-in-Loop.result.now
    c.deref-in-Loop-2.result.now c.args.target c.in_ok-site-in-Loop.site c.args.sites.now c.add_all.new.sites
    c.add_sketch-in-Loop.new.sites c.add_site.new.choice c.push-in-Loop.new.self l.is c.deref-in-Loop.ensures
    c.deref-in-Loop-2.ensures c.in_ok-site-in-Loop.ensures.site c.in_ok-site-in-Loop.ensures.choice
    c.in_ok-push-in-Loop.ensures.items (c.in_ok-add_all-in-Loop.ensures sorts trees))
    (c.add_sketch-in-Loop.ensures sorts trees)

pub add_end-returns-in_ok-add_sketch-in-Block : goal.add_end-returns-in_ok-add_sketch-in-Block
add_end-returns-in_ok-add_sketch-in-Block t c = λ sorts trees.
    let l = c.in-Block in
    on_ok c.add_sketch-in-Block-2.result
    (block_put sorts trees c.args.last.now l.k0 l.k1 l.k2 l.k3 l.templates l.inner l.after c.deref-in-Block.result.now
    c.deref-in-Block-2.result.now c.deref-in-Block-3.result.now c.args.target c.in_ok-site-in-Block.site c.args.sites.now
    c.add_sketch-in-Block.new.sites c.add_sketch-in-Block-2.new.sites c.add_site-in-Block.new.choice c.push-in-Block.new.self
    l.is c.deref-in-Block.ensures c.deref-in-Block-2.ensures c.deref-in-Block-3.ensures c.in_ok-site-in-Block.ensures.site
    c.in_ok-site-in-Block.ensures.choice c.in_ok-push-in-Block.ensures.items (c.in_ok-add_sketch-in-Block.ensures sorts trees))
    (c.add_sketch-in-Block-2.ensures sorts trees)

pub add_all-loop-sketch-preserved : goal.add_all-loop-sketch-preserved
add_all-loop-sketch-preserved t c = λ sorts trees.
    next_put sorts trees c.args.sites.now c.loop-sketch.sites c.add_sketch.new.sites c.args.target c.deref-sketch-items.result.now
    c.loop-sketch.sketch-index c.sketch-item.result (c.loop-sketch.invariant sorts trees)
    (c.in_ok-add_sketch.ensures sorts trees) c.loop-sketch-test.true c.sketch-item.is

pub add_all-returns : goal.add_all-returns
add_all-returns t c = λ sorts trees.
    let past : length c.deref-sketch-items.result.now ≤ c.loop-sketch.sketch-index = omega (arith, c.loop-sketch-test.false) in
    all_put sorts trees c.args.sites.now c.loop-sketch.sites c.args.target c.deref-sketch-items.result.now
    c.loop-sketch.sketch-index c.args.sketches.now (c.loop-sketch.invariant sorts trees) past c.deref-sketch-items.ensures.value
