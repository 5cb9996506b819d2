-- The form stands behind the others.
use Rattle.sm_exact.proofs.Imports.{sym, ap, ◌∙◌, entered, before}
use Rattle.sm_exact.proofs.EntryLemmas.{before_more}
use Rattle.sm_exact.proofs.entry.stay.Goals as goal

pub returns : goal.returns
returns c = λ limit rest.
    sym (before_more c.args.out.items c.args.f (entered limit rest c.args.count))
    ∙ ap (λ l. before l (entered limit rest c.args.count)) (sym c.in_ok-push.ensures.items)
