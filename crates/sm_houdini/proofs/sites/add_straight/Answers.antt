-- A node more.
use Rattle.std.proofs.Common.{◌≤◌, length, arith}
use Rattle.sm_houdini.proofs.SitesLemmas.{target_put, targets_put}
use Rattle.sm_houdini.proofs.sites.add_straight.Goals as goal

pub loop-node-preserved : goal.loop-node-preserved
loop-node-preserved c =
    target_put c.args.owners.now.items c.loop-node.owners.items c.push.new.self.items c.args.target c.deref-node-items.result.now
    c.loop-node._node-index c.loop-node.invariant c.in_ok-push.ensures.items c.loop-node-test.true

pub returns : goal.returns
returns c =
    let past : length c.deref-node-items.result.now ≤ c.loop-node._node-index = omega (arith, c.loop-node-test.false) in
    targets_put c.args.owners.now.items c.loop-node.owners.items c.args.target c.deref-node-items.result.now
    c.args.straight.now.list.items c.loop-node._node-index c.loop-node.invariant past c.deref-node-items.ensures.value
