-- The copy's program may be run from the store.
use Rattle.std.proofs.Common.{◌∙◌}
use Rattle.sm_eval.specs.StoredValues.{sorts_of}
use Rattle.sm_guided.proofs.CopiesSorted.{copy_sorted}
use Rattle.sm_syntax.specs.trees.Copies.{copy_named}
use Rattle.sm_syntax.specs.trees.Programs.{declared_of}
use Rattle.sm_guided.proofs.running.run_copy.Goals as goal

pub observe-requires : goal.observe-requires
observe-requires c =
    copy_sorted (declared_of c.args.setting.now.task.now.shared.decls) (sorts_of c.in_ok-s.s) c.args.setting.now.programs.now
    (copy_named c.args.copy) _ c.args.setting.now.sorted (c.in_ok-s.ensures.sorts ∙ c.requires) c.get.ensures
