use Rattle.sm_text.proofs.Imports.{arith, common_steps, statement_of-Assign, statement_of-Store, statement_of-If, statement_of-While, statement_of-Hole}
use Rattle.sm_text.proofs.printing.statements.+put_statement.Goals as goal

pub put_stmt-returns-in-Assign : goal.put_stmt-returns-in-Assign
put_stmt-returns-in-Assign t c = λ k. grind (arith, common_steps, statement_of-Assign)

pub put_stmt-returns-in-Store : goal.put_stmt-returns-in-Store
put_stmt-returns-in-Store t c = λ k. grind (arith, common_steps, statement_of-Store)

pub put_stmt-returns-in_ok-put_branches-in-If : goal.put_stmt-returns-in_ok-put_branches-in-If
put_stmt-returns-in_ok-put_branches-in-If t c = λ k. grind (arith, common_steps, statement_of-If)

pub put_stmt-returns-in_ok-put_block-in-While : goal.put_stmt-returns-in_ok-put_block-in-While
put_stmt-returns-in_ok-put_block-in-While t c = λ k. grind (arith, common_steps, statement_of-While)

pub put_stmt-returns-in-Hole : goal.put_stmt-returns-in-Hole
put_stmt-returns-in-Hole t c = λ k. grind (arith, common_steps, statement_of-Hole)
