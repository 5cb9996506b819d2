-- The line makes the formula.
use Rattle.sm_write.proofs.Imports.{refl, value_of}
use Rattle.sm_write.proofs.WriterSteps.{stands_form}
use Rattle.sm_write.proofs.forms.add_form.Goals as goal

pub returns-clause-stands : goal.returns-clause-stands
returns-clause-stands c s trees p due rest f at is within made =
    stands_form s trees (value_of c.args.w.now) _ p due rest c.args.line f at is within made c.in_ok-put_form.ensures refl refl
    refl c.in_ok-next.ensures refl
