use Rattle.sm_syntax.proofs.Imports.{nat_eq, arith, common_steps, get}
use Rattle.sm_syntax.proofs.Uses.{first_sort_fault-drop, reports_or}
use Rattle.sm_syntax.proofs.checks.+check_block.Goals as goal

pub check_block-returns-in_err-check_stmt : goal.check_block-returns-in_err-check_stmt
check_block-returns-in_err-check_stmt t c =
    let parts = first_sort_fault-drop (get nat_eq c.args.sorts.now) c.deref-s-items.result.now c.loop-s.s-index c.s-item.result c.loop-s-test.true c.s-item.is in
    grind (arith, common_steps, reports_or)

pub check_block-loop-s-preserved : goal.check_block-loop-s-preserved
check_block-loop-s-preserved t c =
    let parts = first_sort_fault-drop (get nat_eq c.args.sorts.now) c.deref-s-items.result.now c.loop-s.s-index c.s-item.result c.loop-s-test.true c.s-item.is in
    grind (arith, common_steps)
