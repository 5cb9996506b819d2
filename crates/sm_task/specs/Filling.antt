-- The programs of a task's copies. Public clauses cite it.
use Rattle.std.specs.Prelude.{◌≡◌}
use Rattle.sm_syntax.specs.claim.ConflictFree.{Copy, program_of}
use Rattle.sm_syntax.specs.trees.Copies.{of_copy}
use Rattle.sm_syntax.specs.declared.copies.PerCopy.{PerCopy}
use Rattle.sm_syntax.specs.text.Parts.{Parts, task_of}
use Rattle.sm_syntax.specs.trees.Views.{code_of}
use Rattle.sm_syntax.specs.declared.tree.Block.{Block}

-- these are the programs of the task's copies
abbrev pub AreFilled : Parts → PerCopy Block → Type 0
AreFilled t programs = (c : Copy) → code_of (of_copy programs c) ≡ program_of (task_of t) c
