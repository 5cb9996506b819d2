-- A block without a fault is well sorted.
use Rattle.sm_syntax.specs.trees.Programs.{declared_of}
use Rattle.sm_syntax.specs.trees.Views.{code_of}
use Rattle.calls.proofs.SortedNames.{faultless_sorted}
use Rattle.calls.proofs.summary.is_well_sorted.Goals as goal

pub returns-in-Ok : goal.returns-in-Ok
returns-in-Ok c =
    faultless_sorted (declared_of c.args.decls.now) _ (code_of c.args.block.now) c.well_sorted_is_all.ensures c.in-Ok.ensures
