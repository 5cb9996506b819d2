-- The rows are those of the classes.
use Rattle.sm_cc.proofs.Imports.{List, subst, AreInside}
use Rattle.sm_cc.specs.declared.row.Row.{Row}
use Rattle.sm_cc.proofs.ground.inside_keys.Goals as goal

pub returns-clause-inside : goal.returns-clause-inside
returns-clause-inside c =
    subst (λ (rs : List Row). AreInside rs) c.deref.ensures.value (c.are_inside.ensures c.if-not-are_inside.false)
