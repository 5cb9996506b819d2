-- Both facts are forms.
use Rattle.sm_lia.proofs.Imports.{Option, IfOk, Linear, Tree, trees_in, sorts_in, tree_at, BranchFact, followed, form_at, cancelled, StandsIf}
use Rattle.sm_lia.proofs.ComputingLemmas.{followed_form}
use Rattle.sm_lia.proofs.cancelling.elim.Goals as goal

pub returns-in-Some-form_at : goal.returns-in-Some-form_at
returns-in-Some-form_at c = λ facts all.
    let trees = trees_in c.args.table.now in
    let sorts = sorts_in c.args.table.now in
    let t = tree_at trees c.args.t.0 in
    let P = λ (k : Option BranchFact). IfOk c.cancel.result (λ o. StandsIf sorts trees o k) in
    followed_form trees c.in-Some.f.now (form_at facts c.args.m) (λ (f : Linear Tree). followed (form_at facts c.args.n) (cancelled t f)) P
    (c.in-Some.ensures sorts trees facts all)
    (λ h first. followed_form trees c.in-Some-form_at.g.now (form_at facts c.args.n) (cancelled t h) P
    (c.in-Some-form_at.ensures sorts trees facts all)
    (λ i second. c.cancel.ensures h i first second))
