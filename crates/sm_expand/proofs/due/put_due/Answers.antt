-- One obligation more.
use Rattle.sm_expand.proofs.Imports.{sym, subst, AreDuesReady}
use Rattle.sm_expand.proofs.FormsLemmas.{dues_append}
use Rattle.sm_expand.proofs.due.put_due.Goals as goal

pub returns-clause-ready : goal.returns-clause-ready
returns-clause-ready c = λ sorts trees facts goals old.
    subst (AreDuesReady sorts trees) (sym c.in_ok-push.ensures.items)
    (dues_append sorts trees c.args.dues.now.items
    (record { node = c.args.node; facts = c.in_ok-shared.shared; targets = c.args.goals; last = c.args.last }) old
    (c.in_ok-shared.ensures.ready sorts trees facts) goals)
