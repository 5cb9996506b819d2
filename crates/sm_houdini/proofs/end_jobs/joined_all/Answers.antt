-- The goals of one node more.
use Rattle.sm_houdini.proofs.Imports.{◌≡◌, ℕ, ◌+◌, ◌-◌, ◌*◌, List, [], length, take, drop, sym, ap, ◌∙◌, arith, trees_in, sorts_in, widens_same, widens_twice, RunEnd, asked, AreCollected, placed}
use Rattle.sm_expand.specs.Views.{dues_in}
use Rattle.sm_houdini.proofs.EndJobsLemmas.{node_ends, runs_sound}
use Rattle.sm_houdini.proofs.EndLemmas.{due_passed, due_ended}
use Rattle.sm_houdini.proofs.LoopLemmas.{at_place, at_place_is}
use Rattle.sm_houdini.proofs.end_jobs.joined_all.Goals as goal

-- the runs of a node as a slice
slice_is : (at place each : ℕ) (ends : List RunEnd) → at ≡ place →
    take (at * each + each - at * each) (drop (at * each) ends) ≡ take each (drop (place * each) ends)
slice_is at place each ends same =
    let count : at * each + each - at * each ≡ each = omega arith in
    ap (λ (n : ℕ). take n (drop (at * each) ends)) count ∙ ap (λ (p : ℕ). take each (drop (p * each) ends)) same

pub joined-requires-clause-sound : goal.joined-requires-clause-sound
joined-requires-clause-sound c =
    let v = c.args.table.now in
    let at = c.loop-at.at in
    let d = at_place c.args.dues.now at c.loop-at-test.true in
    let ends = node_ends v c.args.reach c.args.dues.now c.args.each c.args.ends.now c.requires.some c.requires.made at d c.loop-at-test.true
    (at_place_is c.args.dues.now at c.loop-at-test.true) _ (slice_is c.placed.result (placed (length c.args.dues.now) at) c.args.each c.args.ends.now c.placed.ensures.place) in
    runs_sound v c.loop-at.table c.loop-at.invariant.widens c.len-from.result c.len-from.ensures.len c.args.reach d d.targets.list.items _ ends

pub returns-then-is_some-clause-ends : goal.returns-then-is_some-clause-ends
returns-then-is_some-clause-ends c = λ before.
    let v = c.args.table.now in
    let inv = c.loop-at.invariant in
    let at = c.loop-at.at in
    let d = at_place c.args.dues.now at c.loop-at-test.true in
    let is = at_place_is c.args.dues.now at c.loop-at-test.true in
    let ends = node_ends v c.args.reach c.args.dues.now c.args.each c.args.ends.now c.requires.some c.requires.made at d c.loop-at-test.true
    is _ (slice_is c.placed.result (placed (length c.args.dues.now) at) c.args.each c.args.ends.now c.placed.ensures.place) in
    let ds = dues_in (sorts_in v) (trees_in v) c.args.dues.now in
    due_ended v v c.joined.new.table (widens_same v) c.args.reach at c.args.dues.now d c.requires.ready c.loop-at-test.true is
    c.requires.inside.closes (asked (take at ds)) c.joined.new.trees.items (inv.closes before) c.in_ok-end.end
    (sym c.is_some.ensures ∙ c.if-is_some.true)
    (c.in_ok-end.ensures.ends v inv.widens c.len-from.ensures.len c.args.reach d d.targets.list.items (asked (take at ds)) ends
    (inv.collected before))

pub loop-at-preserved : goal.loop-at-preserved
loop-at-preserved c =
    let v = c.args.table.now in
    let inv = c.loop-at.invariant in
    let at = c.loop-at.at in
    let d = at_place c.args.dues.now at c.loop-at-test.true in
    let is = at_place_is c.args.dues.now at c.loop-at-test.true in
    let ends = node_ends v c.args.reach c.args.dues.now c.args.each c.args.ends.now c.requires.some c.requires.made at d c.loop-at-test.true
    is _ (slice_is c.placed.result (placed (length c.args.dues.now) at) c.args.each c.args.ends.now c.placed.ensures.place) in
    let ds = dues_in (sorts_in v) (trees_in v) c.args.dues.now in
    let passed = λ (before : AreCollected v [] c.args.trees.now.items).
    due_passed v v c.joined.new.table (widens_same v) c.args.reach at c.args.dues.now d c.requires.ready c.loop-at-test.true is
    c.joined.new.trees.items c.in_ok-end.end (sym c.is_some.ensures ∙ c.if-is_some.false)
    (c.in_ok-end.ensures.ends v inv.widens c.len-from.ensures.len c.args.reach d d.targets.list.items (asked (take at ds)) ends
    (inv.collected before)) in
    record {
      collected = λ before. (passed before).0;
      closes = λ before. inv.closes before ∙ (passed before).1;
      widens = widens_twice v c.loop-at.table c.joined.new.table inv.widens c.in_ok-end.ensures.widens;
    }
