-- What the node opened waits before the others.
use Rattle.sm_write.proofs.Imports.{List, reverse, sym, ◌∙◌, subst, Vec, Global, numbered_at, Cursor, below, plans_ready, IsUnderway, ArePlacedReady, PlacedState, value_of, opened_ready, opened_fewer, plans_of}
use Rattle.sm_plan.specs.declared.opening.Opened.{Opened}
use Rattle.sm_write.proofs.TreesStay.{trees_wider}
use Rattle.sm_write.proofs.UnderwayLemmas.{opening_left, goals_done}
use Rattle.sm_write.proofs.WaitingStays.{all_ready}
use Rattle.sm_write.proofs.plans.write_node.Goals as goal

pub write_goals-requires : goal.write_goals-requires
write_goals-requires c =
    trees_wider c.args.table.now c.write_opening.new.table c.in_ok-opened.ensures.widens c.args.certs.now c.requires.trees

pub returns-clause-written : goal.returns-clause-written
returns-clause-written c = λ s u.
    let v = c.args.table.now in
    let w = c.write_opening.new.table in
    let o : Opened × Vec Cursor Global = (c.in_ok-opened.opened, c.in_ok-opened.cursors) in
    let xs = reverse c.args.waiting.now.items in
    let mid = value_of c.write_opening.new.w in
    let new = value_of c.write_goals.new.w in
    let left = opening_left s v w c.in_ok-opened.ensures.widens (value_of c.args.w.now) mid c.args.next xs o c.args.certs.now
    c.requires.states c.requires.trees c.in_ok-opened.ensures.written u in
    subst (λ (l : List PlacedState). IsUnderway s w new l c.in_ok-left.left.now) (sym c.in_ok-put_states.ensures)
    (goals_done s w mid new o xs c.len-goals.result c.args.certs.now c.in_ok-left.left.now left
    (c.len-goals.ensures ∙ c.in_ok-opened.opened.goals.list.ok.0) c.in_ok-left.ensures.written)

pub returns-clause-ready : goal.returns-clause-ready
returns-clause-ready c =
    let v = c.args.table.now in
    let w = c.write_opening.new.table in
    let wider = c.in_ok-opened.ensures.widens in
    let opens = c.in_ok-opened.ensures.written.opens in
    let n = numbered_at c.args.next.cursor in
    subst (ArePlacedReady w) (sym c.in_ok-put_states.ensures)
    (opened_ready w c.in_ok-opened.opened.states.items c.in_ok-opened.cursors.items (below n) (reverse c.args.waiting.now.items)
    opens.count opens.plans opens.states (plans_ready v w wider (below n) (plans_of v n c.requires.states.0.plan))
    (all_ready v w wider (reverse c.args.waiting.now.items) c.requires.states.1))

pub returns-clause-fewer : goal.returns-clause-fewer
returns-clause-fewer c =
    let opens = c.in_ok-opened.ensures.written.opens in
    opened_fewer c.in_ok-opened.opened.states.items c.in_ok-opened.cursors.items c.args.next (reverse c.args.waiting.now.items)
    (reverse c.put_states.new.waiting.items) opens.count opens.plans c.in_ok-put_states.ensures
