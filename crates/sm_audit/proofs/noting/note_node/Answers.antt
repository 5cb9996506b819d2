-- What the node opened waits before the others.
use Rattle.sm_audit.proofs.Imports.{◌≡◌, ◌+◌, ◌∷◌, ◌++◌, ℕ, List, length, reverse, sym, ap, ◌∙◌, subst, Vec, Global, length-append, Opened, widens_same, numbered_at, Cursor, below, plans_ready, IsUnderway, ArePlacedReady, placed_with, PlacedState, opened_fewer, opened_ready, plans_of}
use Rattle.sm_audit.proofs.NodesMet.{node_met}
use Rattle.sm_audit.proofs.UnderwayLemmas.{underway_next}
use Rattle.sm_audit.proofs.WaitsStay.{all_ready}
use Rattle.sm_audit.proofs.noting.note_node.Goals as goal

pub open_at-requires-clause-state : goal.open_at-requires-clause-state
open_at-requires-clause-state c = c.requires.0.state

pub open_at-requires-clause-plan : goal.open_at-requires-clause-plan
open_at-requires-clause-plan c = c.requires.0.plan

pub returns-in-None-clause-widens : goal.returns-in-None-clause-widens
returns-in-None-clause-widens c = widens_same c.args.table.now

pub returns-in_err-push-clause-widens : goal.returns-in_err-push-clause-widens
returns-in_err-push-clause-widens c = widens_same c.args.table.now

pub returns-clause-rows : goal.returns-clause-rows
returns-clause-rows c = λ sorts trees.
    let opens = c.in_ok-opened.ensures.ok in
    node_met sorts trees c.args.rows.now.items c.push.new.self.items c.in-Some.row c.args.next (reverse c.args.waiting.now.items)
    (reverse c.put_states.new.waiting.items) c.in_ok-opened.opened.states.items c.in_ok-opened.cursors.items
    c.in_ok-push.ensures.items (c.in-Some.ensures.row sorts trees) opens.count opens.plans c.in_ok-put_states.ensures

pub returns-clause-states : goal.returns-clause-states
returns-clause-states c = λ states u.
    let v = c.args.table.now in
    let w = c.open_at.new.table in
    let o : Opened × Vec Cursor Global = (c.in_ok-opened.opened, c.in_ok-opened.cursors) in
    let opens = c.in_ok-opened.ensures.ok in
    let k = c.len-node.result in
    let same : k ≡ length c.args.rows.now.items = c.len-node.ensures ∙ c.args.rows.now.ok.0 in
    let xs = reverse c.args.waiting.now.items in
    let new = c.note_stores.new.since.items in
    let more : length c.push.new.self.items ≡ k + 1 =
    ap length c.in_ok-push.ensures.items ∙ length-append c.args.rows.now.items _ ∙ ap (λ (n : ℕ). n + 1) (sym same) in
    subst (λ (l : List PlacedState). IsUnderway states w (length c.push.new.self.items) new l) (sym c.in_ok-put_states.ensures)
    (subst (λ (n : ℕ). IsUnderway states w n new (placed_with o.0.states.items o.1.items ++ xs)) (sym more)
    (underway_next states v w c.in_ok-opened.ensures.widens k c.args.since.now.items new c.args.next xs o c.len.ensures.sorted c.requires
    opens (c.note_stores.ensures _ states _)
    (subst (λ (n : ℕ). IsUnderway states v n c.args.since.now.items (c.args.next ∷ xs)) (sym same) u)))

pub returns-clause-ready : goal.returns-clause-ready
returns-clause-ready c =
    let v = c.args.table.now in
    let w = c.open_at.new.table in
    let wider = c.in_ok-opened.ensures.widens in
    let opens = c.in_ok-opened.ensures.ok in
    let n = numbered_at c.args.next.cursor in
    subst (ArePlacedReady w) (sym c.in_ok-put_states.ensures)
    (opened_ready w c.in_ok-opened.opened.states.items c.in_ok-opened.cursors.items (below n) (reverse c.args.waiting.now.items)
    opens.count opens.plans opens.states (plans_ready v w wider (below n) (plans_of v n c.requires.0.plan))
    (all_ready v w wider (reverse c.args.waiting.now.items) c.requires.1))

pub returns-clause-fewer : goal.returns-clause-fewer
returns-clause-fewer c =
    let opens = c.in_ok-opened.ensures.ok in
    opened_fewer c.in_ok-opened.opened.states.items c.in_ok-opened.cursors.items c.args.next (reverse c.args.waiting.now.items)
    (reverse c.put_states.new.waiting.items) opens.count opens.plans c.in_ok-put_states.ensures
