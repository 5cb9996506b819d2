-- The contrary stands where what always holds stood, and its parts behind the facts where none of a fact stand there.
use Rattle.sm_solve.proofs.Imports.{[], List, ◌∙◌, subst, refl, arith, numbered, assertion_in, trees_in, sorts_in, Tree, AreAllForms, with_formulas, room_for_goal}
use Rattle.sm_solve.proofs.AtGoalLemmas.{opened, opened_last, room_below, flat_there}
use Rattle.sm_solve.proofs.NodeLemmas.{added_behind}
use Rattle.sm_solve.proofs.fact_base.FactBase.open_goal.Goals as goal

pub add_linear_forms-requires : goal.add_linear_forms-requires
add_linear_forms-requires c =
    let form = assertion_in (sorts_in c.args.table.now) (trees_in c.args.table.now) (numbered c.args.contrary.now) in
    let is = c.requires.node.1 in
    let first = with_formulas (room_for_goal c.requires.node.0) [] in
    let behind = added_behind form first in
    let shared = c.in_ok-fact.ensures.added first is.shared in (
      first,
      behind.0,
      shared.own ∙ behind.1,
      subst (λ (ts : List Tree). AreAllForms ts c.args.self.now.forms.items) is.shared.own is.forms,
    )

pub index_mut-requires : goal.index_mut-requires
index_mut-requires c =
    let long = room_below c.args.table.now c.requires.node.0 c.args.self.now c.requires.node.1 in
    let many = c.args.self.now.facts.ok.0 in
    omega (arith, long, many)

pub returns-in_ok-add_parts-clause-goal : goal.returns-in_ok-add_parts-clause-goal
returns-in_ok-add_parts-clause-goal c = λ given is.
    let form = assertion_in (sorts_in c.args.table.now) (trees_in c.args.table.now) (numbered c.args.contrary.now) in
    let first = with_formulas (room_for_goal given) [] in
    opened_last c.args.table.now c.add.new.table given c.args.self.now _ form is c.in_ok-fact.ensures.grows
    (c.in_ok-fact.ensures.added first is.shared) c.in_ok-add_linear_forms.ensures.all c.in_ok-add_linear_forms.ensures.more c.in_ok-fact.fact c.in_ok-fact.ensures.formula c.in_ok-fact.ensures.inside
    _ refl c.in_ok-add_parts.ensures.longer c.in_ok-add_parts.ensures.added c.in_ok-add_parts.ensures.within refl refl refl
    (omega arith) c.requires.sorted

pub overflow_add-self : goal.overflow_add-self
overflow_add-self c =
    let long = room_below c.args.table.now c.requires.node.0 c.args.self.now c.requires.node.1 in
    let many = c.args.self.now.facts.ok.0 in
    omega (arith, long, many)

pub returns-else-self-len-clause-goal : goal.returns-else-self-len-clause-goal
returns-else-self-len-clause-goal c = λ given is.
    let form = assertion_in (sorts_in c.args.table.now) (trees_in c.args.table.now) (numbered c.args.contrary.now) in
    let first = with_formulas (room_for_goal given) [] in
    opened c.args.table.now c.add.new.table given c.args.self.now _ form is c.in_ok-fact.ensures.grows
    (c.in_ok-fact.ensures.added first is.shared) c.in_ok-add_linear_forms.ensures.all c.in_ok-add_linear_forms.ensures.more c.in_ok-fact.fact c.in_ok-fact.ensures.formula c.in_ok-fact.ensures.inside
    refl refl refl refl (flat_there c.args.self.now form c.requires.room (λ last. omega (arith, last))) c.requires.sorted
