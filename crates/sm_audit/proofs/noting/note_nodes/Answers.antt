-- Nodes are taken while a state waits.
use Rattle.sm_audit.proofs.Imports.{◌≡◌, List, [], ◌∷◌, ◌++◌, length, reverse, sym, ap, ◌∙◌, subst, nil_from_length, widens_same, widens_twice, NodeRow, IsUnderway, nodes_with, ArePlacedReady, PlacedState, popped}
use Rattle.sm_audit.proofs.NodesMet.{all_met}
use Rattle.sm_audit.proofs.noting.note_nodes.Goals as goal

pub loop-next-init : goal.loop-next-init
loop-next-init c =
    let one : reverse c.push.new.self.items ≡ c.args.first ∷ [] =
    ap reverse c.in_ok-push.ensures.items ∙ ap (λ (l : List PlacedState). reverse (l ++ c.args.first ∷ [])) c.new-waiting.ensures.items in
    record {
      ready = subst (ArePlacedReady c.args.table.now) (sym one) (c.requires, tt);
      met = λ sorts trees i. nodes_with sorts trees c.new-rows.result.items (reverse c.push.new.self.items);
      underway = λ states u. u;
      widens = widens_same c.args.table.now;
    }

pub note_node-requires : goal.note_node-requires
note_node-requires c =
    subst (ArePlacedReady c.loop-next.table)
    (popped c.loop-next.waiting.items c.pop.new.self.items c.in-Some.next c.in-Some.ensures.items) c.loop-next.invariant.ready

pub loop-next-preserved : goal.loop-next-preserved
loop-next-preserved c =
    let i = c.loop-next in
    let first = popped i.waiting.items c.pop.new.self.items c.in-Some.next c.in-Some.ensures.items in
    record {
      ready = c.in_ok-note_node.ensures.ready;
      met = λ sorts trees.
          c.in_ok-note_node.ensures.rows sorts trees ∙ ap (nodes_with sorts trees i.rows.items) (sym first)
          ∙ i.invariant.met sorts trees;
      underway = λ states u.
          c.in_ok-note_node.ensures.states states
          (subst (λ (l : List PlacedState). IsUnderway states i.table (length i.rows.items) i.since.items l) first
          (i.invariant.underway states u));
      widens = widens_twice c.args.table.now i.table c.note_node.new.table i.invariant.widens c.in_ok-note_node.ensures.widens;
    }

pub returns-in_err-note_node-clause-widens : goal.returns-in_err-note_node-clause-widens
returns-in_err-note_node-clause-widens c =
    widens_twice c.args.table.now c.loop-next.table c.note_node.new.table c.loop-next.invariant.widens c.in_err-note_node.ensures.widens

pub returns-clause-rows : goal.returns-clause-rows
returns-clause-rows c = λ sorts trees.
    let i = c.loop-next in
    let one : reverse c.push.new.self.items ≡ c.args.first ∷ [] =
    ap reverse c.in_ok-push.ensures.items ∙ ap (λ (l : List PlacedState). reverse (l ++ c.args.first ∷ [])) c.new-waiting.ensures.items in
    let none : i.waiting.items ≡ [] = nil_from_length i.waiting.items (sym i.waiting.ok.0 ∙ c.in_default.ensures.cases.0) in
    all_met sorts trees i.rows.items c.args.first (reverse i.waiting.items) (ap reverse none)
    (i.invariant.met sorts trees
    ∙ ap (λ (rows : List NodeRow). nodes_with sorts trees rows (reverse c.push.new.self.items)) c.new-rows.ensures.items
    ∙ ap (nodes_with sorts trees []) one)

pub returns-clause-states : goal.returns-clause-states
returns-clause-states c = λ states u.
    let i = c.loop-next in
    let one : reverse c.push.new.self.items ≡ c.args.first ∷ [] =
    ap reverse c.in_ok-push.ensures.items ∙ ap (λ (l : List PlacedState). reverse (l ++ c.args.first ∷ [])) c.new-waiting.ensures.items in
    let start = subst (λ (rows : List NodeRow). IsUnderway states c.args.table.now (length rows) c.args.since.now.items
    (reverse c.push.new.self.items)) (sym c.new-rows.ensures.items)
    (subst (λ (l : List PlacedState). IsUnderway states c.args.table.now 0 c.args.since.now.items l) (sym one) u) in
    (i.invariant.underway states start).since_then
