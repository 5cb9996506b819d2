-- The set has each head once, by what it holds.
use Rattle.sm_cc.proofs.Imports.{List, map, refl, sym, ap, ◌∙◌, subst, Term, same_term, contents_of, same_term-Decides, same_term-equiv, heads_met, StandApart, longer_itself}
use Rattle.sm_cc.proofs.NumberedLemmas.{longer_put, apart_from_distinct, value_stored}
use Rattle.sm_cc.proofs.heads.Heads.place.Goals as goal

pub returns-in-Some-clause-longer : goal.returns-in-Some-clause-longer
returns-in-Some-clause-longer c = longer_itself (heads_met c.args.self.now)

pub returns-in-Some-clause-apart : goal.returns-in-Some-clause-apart
returns-in-Some-clause-apart c = λ old. old

pub returns-in-Some-clause-head : goal.returns-in-Some-clause-head
returns-in-Some-clause-head c =
    value_stored same_term contents_of same_term-Decides c.args.self.now.list c.args.head c.in-Some.number c.in-Some.ensures.stored

pub put-requires-clause-same : goal.put-requires-clause-same
put-requires-clause-same c = (same_term-Decides _ c.args.head).1 (sym c.in_ok-key.ensures)

pub put-requires-clause-new : goal.put-requires-clause-new
put-requires-clause-new c = sym c.in-None.ensures.found

pub returns-in_err-key-clause-longer : goal.returns-in_err-key-clause-longer
returns-in_err-key-clause-longer c = longer_itself (heads_met c.args.self.now)

pub returns-in_err-number-clause-longer : goal.returns-in_err-number-clause-longer
returns-in_err-number-clause-longer c =
    let same = longer_itself (heads_met c.args.self.now) in (same.0, ap (map contents_of) c.in_err-number.ensures.err ∙ same.1)

pub returns-in_err-number-clause-apart : goal.returns-in_err-number-clause-apart
returns-in_err-number-clause-apart c =
    subst (λ (heads : List Term). StandApart (heads_met c.args.self.now) → StandApart (map contents_of heads))
    (sym c.in_err-number.ensures.err) (λ old. old)

pub returns-clause-longer : goal.returns-clause-longer
returns-clause-longer c =
    let more = longer_put same_term contents_of same_term-Decides c.args.self.now.list c.args.head in
    (more.0, ap (map contents_of) c.in_ok-number.ensures.values ∙ more.1)

pub returns-clause-apart : goal.returns-clause-apart
returns-clause-apart c = λ old.
    apart_from_distinct same_term contents_of same_term-Decides c.put.new.self c.in_ok-number.ensures.unique

pub returns-clause-head : goal.returns-clause-head
returns-clause-head c =
    value_stored same_term contents_of same_term-Decides c.put.new.self c.args.head c.in_ok-number.number
    (c.args.head, c.in_ok-number.ensures.stored, same_term-equiv.refl c.args.head)
