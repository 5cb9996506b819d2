-- The program of each copy may be run from a store of the declarations.
use Rattle.std.proofs.Common.{◌≡◌, ℕ, List, sym, subst}
use Rattle.sm_replay.proofs.RunnableTasks.{sorted_runs}
use Rattle.sm_replay.specs.Runs.{AreSorted}
use Rattle.sm_syntax.specs.claim.ConflictFree.{Copy}
use Rattle.sm_syntax.specs.text.Parts.{sort_of}
use Rattle.sm_syntax.specs.text.Sorts.{Sorts, IsWellSorted}
use Rattle.sm_syntax.specs.declared.tree.Sort.{Sort}
use Rattle.sm_syntax.specs.trees.Copies.{of_copy}
use Rattle.sm_syntax.specs.declared.copies.PerCopy.{PerCopy}
use Rattle.sm_syntax.specs.trees.Views.{code_of}
use Rattle.sm_syntax.specs.declared.tree.Block.{Block}

pub copy_sorted : (declared : List (ℕ × Sort)) (sorts : Sorts) (programs : PerCopy Block) (copy : Copy) (program : Block)
    → AreSorted declared programs → sorts ≡ sort_of declared → program ≡ of_copy programs copy → IsWellSorted sorts (code_of program)
copy_sorted declared sorts programs copy program sorted same is =
    subst (λ (b : Block). IsWellSorted sorts (code_of b)) (sym is) (sorted_runs declared sorts programs sorted same copy)
