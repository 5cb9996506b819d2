-- The set has each list of parts once.
use Rattle.sm_cc.proofs.Imports.{Some, List, map, refl, sym, ap, ◌∙◌, subst, parts_met, StandApart, longer_itself}
use Rattle.sm_cc.proofs.NumberedLemmas.{longer_put, apart_from_distinct, value_stored, same_list, parts_of, same_list-Decides, Parts}
use Rattle.sm_cc.proofs.shapes.Shapes.number.Goals as goal

pub returns-in-Some-clause-longer : goal.returns-in-Some-clause-longer
returns-in-Some-clause-longer c = longer_itself (parts_met c.args.self.now)

pub returns-in-Some-clause-apart : goal.returns-in-Some-clause-apart
returns-in-Some-clause-apart c = λ old. old

pub returns-in-Some-clause-number : goal.returns-in-Some-clause-number
returns-in-Some-clause-number c =
    value_stored same_list parts_of same_list-Decides c.args.self.now.parts c.in_ok-list.list c.in-Some.number c.in-Some.ensures.stored
    ∙ ap Some c.in_ok-list.ensures.items

pub put-requires-clause-same : goal.put-requires-clause-same
put-requires-clause-same c = (same_list-Decides c.in_ok-key.key c.in_ok-list.list).1 (c.in_ok-key.ensures.items ∙ sym c.in_ok-list.ensures.items)

pub put-requires-clause-new : goal.put-requires-clause-new
put-requires-clause-new c = sym c.in-None.ensures.found

pub returns-in_err-number-clause-longer : goal.returns-in_err-number-clause-longer
returns-in_err-number-clause-longer c =
    let same = longer_itself (parts_met c.args.self.now) in (same.0, ap (map parts_of) c.in_err-number.ensures.err ∙ same.1)

pub returns-in_err-number-clause-apart : goal.returns-in_err-number-clause-apart
returns-in_err-number-clause-apart c =
    subst (λ (lists : List Parts). StandApart (parts_met c.args.self.now) → StandApart (map parts_of lists))
    (sym c.in_err-number.ensures.err) (λ old. old)

pub returns-clause-longer : goal.returns-clause-longer
returns-clause-longer c =
    let more = longer_put same_list parts_of same_list-Decides c.args.self.now.parts c.in_ok-list.list in
    (more.0, ap (map parts_of) c.in_ok-number.ensures.values ∙ more.1)

pub returns-clause-apart : goal.returns-clause-apart
returns-clause-apart c = λ old.
    apart_from_distinct same_list parts_of same_list-Decides c.put.new.self c.in_ok-number.ensures.unique

pub returns-clause-number : goal.returns-clause-number
returns-clause-number c =
    value_stored same_list parts_of same_list-Decides c.put.new.self c.in_ok-list.list c.in_ok-number.number
    (c.in_ok-list.list, c.in_ok-number.ensures.stored, (same_list-Decides c.in_ok-list.list c.in_ok-list.list).1 refl)
    ∙ ap Some c.in_ok-list.ensures.items
