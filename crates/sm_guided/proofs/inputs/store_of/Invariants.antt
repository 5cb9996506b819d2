-- The sorts are those of the declarations.
use Rattle.std.proofs.Common.{◌≡◌}
use Rattle.sm_eval.specs.StoredValues.{sorts_of}
use Rattle.sm_syntax.specs.text.Parts.{sort_of}
use Rattle.sm_syntax.specs.trees.Programs.{declared_of}
use Rattle.sm_guided.proofs.inputs.store_of.Given as goal

abbrev pub invariant-loop-i : goal.invariant-loop-i
invariant-loop-i l = sorts_of l.s ≡ sort_of (declared_of l.decls)
