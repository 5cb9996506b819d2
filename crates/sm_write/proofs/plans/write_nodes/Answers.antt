-- Nodes are written while a state waits.
use Rattle.sm_write.proofs.Imports.{◌≡◌, List, [], ◌∷◌, ◌++◌, reverse, sym, ap, ◌∙◌, subst, nil_from_length, widens_same, widens_twice, IsUnderway, ArePlacedReady, PlacedState, value_of, popped}
use Rattle.sm_write.proofs.UnderwayLemmas.{underway_whole}
use Rattle.sm_write.proofs.plans.write_nodes.Goals as goal

pub loop-next-init : goal.loop-next-init
loop-next-init c =
    let one : reverse c.push.new.self.items ≡ c.args.first ∷ [] =
    ap reverse c.in_ok-push.ensures.items ∙ ap (λ (l : List PlacedState). reverse (l ++ c.args.first ∷ [])) c.new-waiting.ensures.items in
    record {
      states = subst (ArePlacedReady c.args.table.now) (sym one) (c.requires.state, tt);
      trees = c.requires.trees;
      underway = λ s u. u;
      widens = widens_same c.args.table.now;
    }

pub write_node-requires-clause-states : goal.write_node-requires-clause-states
write_node-requires-clause-states c =
    subst (ArePlacedReady c.loop-next.table)
    (popped c.loop-next.waiting.items c.pop.new.self.items c.in-Some.next c.in-Some.ensures.items) c.loop-next.invariant.states

pub loop-next-preserved : goal.loop-next-preserved
loop-next-preserved c =
    let i = c.loop-next in
    record {
      states = c.in_ok-left.ensures.ready;
      trees = c.in_ok-left.ensures.within;
      underway = λ s u.
          c.in_ok-left.ensures.written s
          (subst (λ (l : List PlacedState). IsUnderway s i.table (value_of i.w) l i.left.now)
          (popped i.waiting.items c.pop.new.self.items c.in-Some.next c.in-Some.ensures.items) (i.invariant.underway s u));
      widens = widens_twice c.args.table.now i.table c.write_node.new.table i.invariant.widens c.in_ok-left.ensures.widens;
    }

pub returns-in_err-left-clause-widens : goal.returns-in_err-left-clause-widens
returns-in_err-left-clause-widens c =
    widens_twice c.args.table.now c.loop-next.table c.write_node.new.table c.loop-next.invariant.widens c.in_err-left.ensures.widens

pub returns-clause-written : goal.returns-clause-written
returns-clause-written c = λ s u.
    let i = c.loop-next in
    let one : reverse c.push.new.self.items ≡ c.args.first ∷ [] =
    ap reverse c.in_ok-push.ensures.items ∙ ap (λ (l : List PlacedState). reverse (l ++ c.args.first ∷ [])) c.new-waiting.ensures.items in
    let none : i.waiting.items ≡ [] = nil_from_length i.waiting.items (sym i.waiting.ok.0 ∙ c.in_default.ensures.cases.0) in
    underway_whole s i.table (value_of i.w) i.left.now
    (subst (λ (l : List PlacedState). IsUnderway s i.table (value_of i.w) l i.left.now) (ap reverse none)
    (i.invariant.underway s
    (subst (λ (l : List PlacedState). IsUnderway s c.args.table.now (value_of c.args.w.now) l c.args.certs.now) (sym one) u)))
