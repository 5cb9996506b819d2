use Rattle.sm_solve.proofs.Imports.{subst, exact}
use Rattle.sm_exact.specs.Telling.{TellsExact}
use Rattle.sm_solve.proofs.DecidingLemmas.{decided_shows}
use Rattle.sm_solve.proofs.deciding.decided.Goals as goal

pub returns-in-Refuted-clause-shows : goal.returns-in-Refuted-clause-shows
returns-in-Refuted-clause-shows c = λ b from.
    let forms = c.args.made.forms.list.items in
    let tells = subst (λ fs. TellsExact fs (exact fs c.args.left) c.in_ok-count.field-0) c.deref.ensures.value c.in_ok-count.ensures.tells in
    decided_shows b c.args.made.sources.items forms c.args.left c.in-Refuted.count c.requires from
    (subst (TellsExact forms (exact forms c.args.left)) c.in-Refuted.is tells)
