-- The term that there is.
use Rattle.sm_write.proofs.Imports.{Option, subst, IfSome, trees_in, tree_at, TermId, IsBuilt, Seen}
use Rattle.sm_write.proofs.lines.name_some.Goals as goal

pub returns-in-Some-clause-extends : goal.returns-in-Some-clause-extends
returns-in-Some-clause-extends c s seen p set built =
    c.name_term.ensures.extends s seen p set
    (subst (λ (o : Option TermId). IfSome o (λ (t : TermId). IsBuilt (Seen seen) (tree_at (trees_in c.args.table.now) t.0))) c.in-Some.is built)
