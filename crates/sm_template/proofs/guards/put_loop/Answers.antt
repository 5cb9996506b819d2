-- What the guard of the copy's loop suggests, over the table that has the places.
use Rattle.sm_template.proofs.Imports.{◌≡◌, true, if◌then◌else◌, [], sym, ap, subst, ◌∙◌, Condition, copy_named, condition_of, on_ok, grows-twice, set_of, guard_in, loop_guard, rest_code, AddsBounds, guard_templates}
use Rattle.sm_plan.specs.Copies as sets
use Rattle.sm_template.proofs.BoundsMade.{bounds_after}
use Rattle.sm_template.proofs.guards.put_loop.Goals as goal

pub returns-clause-added : goal.returns-clause-added
returns-clause-added c =
    let u = c.args.table.now in
    let v = c.places_of.new.table in
    let w = c.put_guard.new.table in
    let copy = copy_named c.args.copy in
    let ps = c.args.bounds.now.keys in
    let qs = c.put_guard.new.bounds.keys in
    let guard = condition_of c.in-Some.guard.now in
    let code = rest_code c.args.rest.now in
    let loop : guard ≡ loop_guard code = ap guard_in c.in-Some.ensures in
    let inside : sets.has (set_of c.args.set) copy ≡ true = sym c.has.ensures ∙ c.if-not-has.false in
    on_ok c.put_guard.result c.put_guard.ensures.added
    (λ (more : AddsBounds v w ps qs (guard_templates guard copy)).
    subst (AddsBounds u w ps qs)
    (ap (λ (b : Condition). guard_templates b copy) loop ∙ ap (λ b. if b then guard_templates (loop_guard code) copy else []) (sym inside))
    (bounds_after u v w c.places_of.ensures.grows ps qs (guard_templates guard copy) more))

pub returns-clause-grows : goal.returns-clause-grows
returns-clause-grows c =
    grows-twice c.args.table.now c.places_of.new.table c.put_guard.new.table c.places_of.ensures.grows c.put_guard.ensures.grows
