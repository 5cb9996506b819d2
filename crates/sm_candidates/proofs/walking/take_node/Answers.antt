-- The states that follow wait, over the table that the node widened.
use Rattle.sm_candidates.proofs.Imports.{below, numbered_at, plan_ready}
use Rattle.sm_candidates.proofs.WaitsLemmas.{all_stay, places_of}
use Rattle.sm_candidates.proofs.walking.take_node.Goals as goal
use Rattle.sm_expand.proofs.PlacedLemmas.{plans_of}

pub returns-clause-ready : goal.returns-clause-ready
returns-clause-ready c =
    let v = c.args.table.now in
    let w = c.open_at.new.table in
    let wider = c.in_ok-opened.ensures.widens in
    let opens = c.in_ok-opened.ensures.ok in
    let plan = numbered_at c.args.next.cursor in
    c.in_ok-put_states.ensures w (all_stay v w wider c.args.waiting.now.items c.requires.waiting) opens.states
    (places_of w c.in_ok-opened.cursors.items (below plan) opens.plans
    (plans_of w plan (plan_ready v w wider plan c.requires.next.place)))
