-- As many owners as nodes so far.
use Rattle.sm_houdini.proofs.Imports.{◌≡◌, ◌++◌, take, targets}
use Rattle.sm_houdini.proofs.sites.add_straight.Given as goal

abbrev pub invariant-loop-node : goal.invariant-loop-node
invariant-loop-node l =
    l.owners.items ≡ l.initial.owners.items ++ targets l.target (take l._node-index l._node-items)
