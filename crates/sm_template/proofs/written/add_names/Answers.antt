-- One name more.
use Rattle.sm_template.proofs.Imports.{◌∙◌, List, get_or, ap, sym, take_all, Name, is_in, either, either-false, members-insert}
use Rattle.sm_deps.specs.Members.{members}
use Rattle.sm_template.proofs.WrittenLemmas.{numbers_of, name_put}
use Rattle.sm_template.proofs.written.add_names.Goals as goal

pub loop-x-init : goal.loop-x-init
loop-x-init c = sym (either-false (members c.args.set.now))

pub loop-x-preserved : goal.loop-x-preserved
loop-x-preserved c =
    let names : List Name = c.deref-x-items.result.now in
    let i = c.loop-x.x-index in
    let d : Name = record { 0 = 0 } in
    name_put (members c.args.set.now) (members c.loop-x.set) (members c.insert.new.self) names i d c.loop-x-test.true c.loop-x.invariant
    (members-insert c.loop-x.set c.insert.new.self (get_or names i d).0 c.in_ok-insert.ensures.updates)

pub returns : goal.returns
returns c =
    let start = members c.args.set.now in
    c.loop-x.invariant
    ∙ ap (λ (l : List Name). either start (is_in (numbers_of l)))
    (take_all c.loop-x.x-index c.deref-x-items.result.now c.loop-x-test.false ∙ c.deref-x-items.ensures.value)
