-- The formula at the place is the same.
use Rattle.sm_judge.proofs.Imports.{sym, ◌∙◌, numbered}
use Rattle.sm_judge.proofs.KeyedLemmas.{there_keyed}
use Rattle.sm_judge.proofs.keyed.is_at.Goals as goal

pub returns-then-place-list : goal.returns-then-place-list
returns-then-place-list c = λ e.
    there_keyed c.args.list.now c.args.place (numbered c.args.f.now) c.index-list-place.result c.if-place-list.true c.index-list-place.is
    (sym c.is_same_formula.ensures.same ∙ e)
