-- What waits first is taken.
use Rattle.sm_expand.proofs.Imports.{◌≡◌, List, length, reverse, refl, sym, ap, ◌∙◌, subst, trees_in, sorts_in, forms_in, state_in, widens_same, widens_twice, Waiting, PlanFault, plan_in, FaultTells, outcome, IsReadyWith}
use Rattle.sm_plan.specs.Plans as plain
use Rattle.sm_expand.proofs.NodeTaken.{err_is}
use Rattle.sm_expand.proofs.WholeLemmas.{popped, ended, no_items}
use Rattle.sm_expand.proofs.expanding.expand_at.Goals as goal

pub loop-next-init : goal.loop-next-init
loop-next-init c = record {
  ready = c.in_ok-walk.ensures.ready c.args.table.now c.requires.state c.requires.facts c.requires.plan;
  whole = refl;
  widens = widens_same c.args.table.now;
}

pub take_node-requires : goal.take_node-requires
take_node-requires c =
    let w = c.loop-next.walk in
    subst (λ (ws : List Waiting). IsReadyWith c.loop-next.table w.path.list.items w.dues.items ws)
    (popped w.waiting.items c.pop.new.self.items c.in-Some.next c.in-Some.ensures.items) c.loop-next.invariant.ready

pub loop-next-preserved : goal.loop-next-preserved
loop-next-preserved c =
    let w = c.loop-next.walk in
    record {
      ready = c.in_ok-take_node.ensures.ready;
      whole = c.loop-next.invariant.whole
          ∙ ap (outcome c.loop-next.table w.dues.items w.nodes w.path.list.items)
          (popped w.waiting.items c.pop.new.self.items c.in-Some.next c.in-Some.ensures.items)
          ∙ c.in_ok-take_node.ensures.ok;
      widens = widens_twice c.args.table.now c.loop-next.table c.take_node.new.table
          c.loop-next.invariant.widens c.in_ok-take_node.ensures.widens;
    }

pub returns-in_err-take_node-clause-err : goal.returns-in_err-take_node-clause-err
returns-in_err-take_node-clause-err c =
    let v = c.args.table.now in
    let w = c.loop-next.walk in
    let x = c.in_err-take_node.field-0.0 in
    let st = state_in (sorts_in v) (trees_in v) (forms_in (sorts_in v) (trees_in v) c.args.facts.list.items) c.args.state in
    let whole = c.in_ok-walk.ensures.start v ∙ c.loop-next.invariant.whole
    ∙ ap (outcome c.loop-next.table w.dues.items w.nodes w.path.list.items)
    (popped w.waiting.items c.pop.new.self.items c.in-Some.next c.in-Some.ensures.items) in
    err_is (λ (e : PlanFault). FaultTells e (plain.expand 0 st (plan_in (sorts_in v) (trees_in v) c.args.plan.now)))
    c.from_residual-in_err-take_node.result x c.from_residual-in_err-take_node.ensures.1
    (subst (FaultTells x) (sym whole) c.in_err-take_node.ensures.err)

pub returns-in_err-take_node-clause-widens : goal.returns-in_err-take_node-clause-widens
returns-in_err-take_node-clause-widens c =
    widens_twice c.args.table.now c.loop-next.table c.take_node.new.table c.loop-next.invariant.widens c.in_err-take_node.ensures.widens

pub returns-clause-ok : goal.returns-clause-ok
returns-clause-ok c =
    let w = c.loop-next.walk in
    let none : length w.waiting.items ≡ 0 = sym w.waiting.ok.0 ∙ c.in_default.ensures.cases.0 in
    c.in_ok-walk.ensures.start c.args.table.now ∙ c.loop-next.invariant.whole
    ∙ ended c.loop-next.table w.dues.items w.nodes w.path.list.items (reverse w.waiting.items) (ap reverse (no_items w.waiting.items none))
