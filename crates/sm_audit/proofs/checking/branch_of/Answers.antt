-- The contrary of the goal stands behind the facts.
use Rattle.sm_audit.proofs.BranchLemmas.{denied_stands}
use Rattle.sm_audit.proofs.checking.branch_of.Goals as goal

pub returns : goal.returns
returns c = λ sorts trees facts ready.
    denied_stands sorts trees c.args.facts.now.list.items c.args.goal.now c.in_ok-negate.field-0 c.in_ok-list.list.items
    c.push.new.self.items ready c.in_ok-negate.ensures c.in_ok-push.ensures.items (c.in_ok-list.ensures sorts trees facts)
