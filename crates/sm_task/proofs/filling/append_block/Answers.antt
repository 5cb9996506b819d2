-- At first all statements of the block are left.
use Rattle.sm_task.proofs.Imports.{map, ap, ◌∙◌, List, Code, sequence, statement_of}
use Rattle.sm_syntax.specs.declared.tree.Stmt.{Stmt}
use Rattle.sm_syntax.proofs.Blocks.{block_then}
use Rattle.sm_task.proofs.filling.append_block.Goals as goal

pub loop-s-init : goal.loop-s-init
loop-s-init c k =
    ap (λ (r : Code). sequence (map statement_of c.args.out.now.items) r)
    (ap (λ (l : List Stmt). sequence (map statement_of l) k) c.deref-s-items.ensures.value ∙ block_then c.args.block.now k)
