-- The branch that is due has the facts of the path.
use Rattle.sm_check.proofs.Imports.{◌∙◌, length, ap, sym, subst, HasFacts, WalkValue, sorts_in, trees_in}
use Rattle.sm_check.proofs.PendingLemmas.{due_long}
use Rattle.sm_check.proofs.walk.Walk.facts.Goals as goal

pub returns : goal.returns
returns c = λ p walks.
    let w = c.args.self.now in
    subst (HasFacts p.pending) (sym (c.facts_on.ensures ∙ ap (λ (v : WalkValue). length v.path) c.self.view_is))
    (due_long (sorts_in w.table) (trees_in w.table) w.path w.due w.waiting p.pending walks.pending)
