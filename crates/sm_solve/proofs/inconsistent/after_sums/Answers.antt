use Rattle.sm_solve.proofs.Imports.{length, subst, trees_in, sorts_in, GivesForms, seen_in, forms_of}
use Rattle.sm_solve.proofs.InconsistentLemmas.{inconsistent_by_forms}
use Rattle.sm_solve.proofs.inconsistent.after_sums.Goals as goal

pub returns-in-Ok : goal.returns-in-Ok
returns-in-Ok g c = λ steps sums.
    let trees = trees_in c.args.table.now in
    let b = seen_in (sorts_in c.args.table.now) trees trees c.args.facts.now (g.S.Sees.equal c.args.sees.now) (g.S.Sees.apart c.args.sees.now) in
    let told = subst (GivesForms b (forms_of b)) c.in-Ok.is c.forms_of.ensures in
    inconsistent_by_forms steps c.args.count (length trees) (forms_of b) c.in-Ok.made.forms.list.items told.0 sums
