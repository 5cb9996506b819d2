-- A contradiction, a form that is left out, or one behind the others.
use Rattle.sm_exact.proofs.Imports.{sym, ap, ◌∙◌, tightened, has_no_part, entered}
use Rattle.sm_exact.proofs.EntryLemmas.{enters_refuted, enters_nothing, enters_behind, no_part_by}
use Rattle.sm_exact.proofs.entry.enter.Goals as goal

pub returns-then-is_contradiction : goal.returns-then-is_contradiction
returns-then-is_contradiction c = λ limit rest.
    enters_refuted c.args.out.items c.args.count (tightened c.args.f.now) c.in-Ok.f (entered limit rest c.args.count) c.in-Ok.ensures
    (sym c.is_contradiction.ensures ∙ c.if-is_contradiction.true)

pub returns-then-is_empty : goal.returns-then-is_empty
returns-then-is_empty c = λ limit rest.
    enters_nothing c.args.out.items c.args.count (tightened c.args.f.now) c.in-Ok.f (entered limit rest c.args.count) c.in-Ok.ensures
    (sym c.is_contradiction.ensures ∙ c.if-is_contradiction.false)
    (ap has_no_part (sym c.parts.ensures.parts) ∙ no_part_by c.parts.result.now ∙ sym c.is_empty.ensures ∙ c.if-is_empty.true)

pub returns : goal.returns
returns c = λ limit rest.
    enters_behind c.args.out.items c.push.new.self.items c.args.count (tightened c.args.f.now) c.in-Ok.f
    (entered limit rest c.args.count) c.in-Ok.ensures
    (sym c.is_contradiction.ensures ∙ c.if-is_contradiction.false)
    (ap has_no_part (sym c.parts.ensures.parts) ∙ no_part_by c.parts.result.now ∙ sym c.is_empty.ensures ∙ c.if-is_empty.false)
    c.in_ok-push.ensures.items
