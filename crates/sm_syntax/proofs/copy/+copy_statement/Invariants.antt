-- The copies so far stand for the statements so far.
use Rattle.sm_syntax.proofs.Imports.{◌≡◌, map, take, statement_of}
use Rattle.sm_syntax.proofs.copy.+copy_statement.Given as goal

abbrev pub invariant-copy_block-loop-s : goal.invariant-copy_block-loop-s
invariant-copy_block-loop-s l = map statement_of l.list.items ≡ map statement_of (take l.s-index l.s-items)
