-- Terms of one label are equal on the branch.
use Rattle.sm_certify.proofs.Imports.{◌≡◌, ◌<◌, true, length, sym, subst, numbered, assertion_in, IsFormulaWithin, Formula, trees_in, sorts_in, branch_of, is_refuted}
use Rattle.sm_certify.proofs.ByLabelsLemmas.{equal_by_labels}
use Rattle.sm_certify.proofs.labelled.is_fact_refuted.Goals as goal

pub returns-in-Ne : goal.returns-in-Ne
returns-in-Ne c = λ table ids facts whole within told h.
    let trees = trees_in table in
    let t = c.in-Ne.t in
    let u = c.in-Ne.u in
    let bounds : (t.0 < length trees) × (u.0 < length trees) =
    subst (λ (f : Formula). IsFormulaWithin (length trees) (numbered f)) c.in-Ne.is within in
    let label = c.have_one_label.ensures.0 h in
    subst (λ (f : Formula). is_refuted (branch_of table facts) (assertion_in (sorts_in table) trees (numbered f)) ≡ true)
    (sym c.in-Ne.is)
    (equal_by_labels table ids facts c.args.labels.now whole told t u bounds.0 bounds.1 label.0 label.1 label.2)
