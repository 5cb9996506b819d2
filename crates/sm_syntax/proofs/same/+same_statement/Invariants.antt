-- The statements so far are the same in both blocks.
use Rattle.sm_syntax.proofs.Imports.{◌≡◌, length, map, take, statement_of}
use Rattle.sm_syntax.proofs.same.+same_statement.Given as goal

abbrev pub invariant-same_block-loop-i : goal.invariant-same_block-loop-i
invariant-same_block-loop-i l = record {
  long : length l.a.list.items ≡ length l.b.list.items;
  same : map statement_of (take l.i l.a.list.items) ≡ map statement_of (take l.i l.b.list.items);
}
