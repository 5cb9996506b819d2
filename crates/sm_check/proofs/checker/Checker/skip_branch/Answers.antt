-- What waits behind the branch is pending.
use Rattle.sm_check.proofs.Imports.{Ok, ap, ◌∙◌, TableValue, sorts_in, Progress, Underway}
use Rattle.sm_check.specs.Checkers.{IsAt}
use Rattle.sm_check.proofs.SkipLemmas.{walk_skipped}
use Rattle.sm_check.proofs.checker.Checker.skip_branch.Goals as goal

pub returns : goal.returns
unfolding IsAt
returns c = λ s exact p first rest at is.
    let made = c.in_ok-make_due.ensures in
    let q : Progress = record p { pending = rest } in
    let on : IsAt _ s (Ok (Underway exact q)) = (
      at.0,
      record { sorts = ap (λ (t : TableValue). sorts_in t) made.table ∙ at.1.sorts; assumes = at.1.assumes },
      (
        at.2.0,
        walk_skipped c.args.self.now.walk c.make_due.new.walk p first rest at.2.1 is made.table made.nodes made.terms made.forms
            made.pending,
      ),
      at.3,
    ) in
    (on, c.state.ensures s (Underway exact q) on)
