-- The last thing of the stack is the first that waits.
use Rattle.sm_check.proofs.Imports.{◌∷◌, [], subst, AreWaitingReady}
use Rattle.sm_check.proofs.PendingLemmas.{turn_taken, ready_parts}
use Rattle.sm_check.proofs.due.next_due.Goals as goal

pub returns-in_err-due-in-Some-clause-later : goal.returns-in_err-due-in-Some-clause-later
returns-in_err-due-in-Some-clause-later c sorts trees all =
    (ready_parts sorts trees c.pop.new.self.items (c.in-Some.first ∷ [])
    (subst (AreWaitingReady sorts trees) c.in-Some.ensures.items all)).0

pub returns-in_ok-due-in-Some-clause-later : goal.returns-in_ok-due-in-Some-clause-later
returns-in_ok-due-in-Some-clause-later c sorts trees all =
    (ready_parts sorts trees c.pop.new.self.items (c.in-Some.first ∷ [])
    (subst (AreWaitingReady sorts trees) c.in-Some.ensures.items all)).0

pub returns-in_ok-due-in-Some-clause-ready : goal.returns-in_ok-due-in-Some-clause-ready
returns-in_ok-due-in-Some-clause-ready c sorts trees all =
    let both = ready_parts sorts trees c.pop.new.self.items (c.in-Some.first ∷ [])
    (subst (AreWaitingReady sorts trees) c.in-Some.ensures.items all) in
    c.in_ok-due-in-Some.ensures.ready sorts trees both.1.0

pub returns-in_ok-due-in-Some-clause-stand : goal.returns-in_ok-due-in-Some-clause-stand
returns-in_ok-due-in-Some-clause-stand c sorts trees facts rest all sorted h =
    turn_taken sorts trees facts c.made_ready.new.path.list.items c.args.waiting.now.items c.pop.new.self.items c.in-Some.first rest
    c.in_ok-due-in-Some.due c.in-Some.ensures.items h
    (λ p short waits. c.in_ok-due-in-Some.ensures.stand sorts trees facts p all sorted short waits)
