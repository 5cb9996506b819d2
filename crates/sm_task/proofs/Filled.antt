-- The programs of all copies, from those of each.
use Rattle.sm_task.proofs.Imports.{◌≡◌, O, A, B, M, program_of, Parts, task_of, code_of}
use Rattle.sm_syntax.specs.declared.copies.PerCopy.{PerCopy}
use Rattle.sm_syntax.specs.declared.tree.Block.{Block}
use Rattle.sm_task.specs.Filling.{AreFilled}

-- each of the four is the program of its copy
pub of_four : (t : Parts) (programs : PerCopy Block) →
    code_of programs.base ≡ program_of (task_of t) O →
    code_of programs.variant_a ≡ program_of (task_of t) A →
    code_of programs.variant_b ≡ program_of (task_of t) B →
    code_of programs.candidate ≡ program_of (task_of t) M →
    AreFilled t programs
of_four t programs o a b m O = o
of_four t programs o a b m A = a
of_four t programs o a b m B = b
of_four t programs o a b m M = m
