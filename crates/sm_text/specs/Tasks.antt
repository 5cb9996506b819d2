-- Public clauses cite this file.
-- What the trees of a program, of a head and of a task carry. A head is the front of a task.
use Rattle.std.specs.Prelude.{ℕ, Option, option_map, List}
use Rattle.sm_syntax.specs.declared.program.Fillings as tree
use Rattle.sm_syntax.specs.declared.program.Program.{Program}
use Rattle.sm_syntax.specs.declared.tree.Sort.{Sort}
use Rattle.sm_syntax.specs.claim.ConflictFree.{Copy}
use Rattle.sm_syntax.specs.claim.Fill.{Fillings}
use Rattle.sm_syntax.specs.claim.Syntax.{Condition, Code}
use Rattle.sm_syntax.specs.text.Parts.{Parts}
use Rattle.sm_syntax.specs.trees.Copies.{of_copy}
use Rattle.sm_syntax.specs.declared.copies.PerCopy.{PerCopy}
use Rattle.sm_syntax.specs.trees.Programs.{declared_of, outputs_of, fillings_of}
use Rattle.sm_syntax.specs.trees.Views.{condition_of, code_of}
use Rattle.sm_syntax.specs.declared.tree.Cond.{Cond}
pub use Rattle.sm_text.specs.declared.task.Task.{Task}

-- the parts of a program, and the text of each name by its number
pub record ProgramParts : Type 0 where
  pub names : List (List ℕ)
  pub declared : List (ℕ × Sort)
  pub outputs : List ℕ
  pub body : Code

-- the parts of a head: a program, and what is assumed
pub record HeadParts : Type 0 where
  pub program : ProgramParts
  pub assumed : Option Condition

-- the parts that a program stands for
abbrev pub program_parts : Program → ProgramParts
program_parts p = record {
  names = p.names;
  declared = declared_of p.decls;
  outputs = outputs_of p.outputs;
  body = code_of p.body;
}

-- the parts that a program and an assumption stand for
abbrev pub head_parts : Program → Option Cond → HeadParts
head_parts p b = record { program = program_parts p; assumed = option_map condition_of b }

-- the fillings of each copy
abbrev pub lists_of : PerCopy tree.Fillings → Copy → Fillings
lists_of l c = fillings_of (of_copy l c)

-- the parts of a task
abbrev pub parts_of : Task → Parts
parts_of t = record {
  names = t.shared.names;
  declared = declared_of t.shared.decls;
  outputs = outputs_of t.shared.outputs;
  assumed = option_map condition_of t.assumed;
  shared = code_of t.shared.body;
  fillings = lists_of t.lists;
}
