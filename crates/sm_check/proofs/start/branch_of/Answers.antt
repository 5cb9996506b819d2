-- The formulas are put on an empty path.
use Rattle.sm_check.proofs.Imports.{List, [], sym, subst, AllStand, Fact}
use Rattle.sm_check.proofs.start.branch_of.Goals as goal

pub returns : goal.returns
returns c = λ sorts trees ready.
    c.in_ok-add_forms.ensures sorts trees [] (subst (λ (path : List Fact). AllStand sorts trees path []) (sym c.new.ensures.items) tt) ready
