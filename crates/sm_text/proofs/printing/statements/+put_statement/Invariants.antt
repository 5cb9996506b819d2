-- What is put is the text of the statements so far.
use Rattle.sm_text.proofs.Imports.{◌≡◌, ◌+◌, ◌*◌, ◌++◌, length, map, drop, max, End, sequence, statement_of, code_of, size-Stmt, IsUsedIn, pieces_text}
use Rattle.sm_syntax.specs.declared.tree.Block.{size-Block}
use Rattle.sm_text.specs.printing.Canonical as canonical
use Rattle.sm_text.proofs.printing.statements.+put_statement.Given as goal

abbrev pub invariant-put_block-loop-s : goal.invariant-put_block-loop-s
invariant-put_block-loop-s l = record {
  named : IsUsedIn (length l.names) (sequence (map statement_of (drop l.s-index l.s-items)) End);
  same : l.out.items ++ pieces_text l.names
      (canonical.code_pieces l.inner.items (sequence (map statement_of (drop l.s-index l.s-items)) End)) ≡ l.initial.out.items ++
      pieces_text l.names (canonical.code_pieces l.inner.items (code_of l.b));
}

abbrev pub decreases-put_stmt : goal.decreases-put_stmt
decreases-put_stmt l = 2 * size-Stmt l.s.now

abbrev pub decreases-put_branches : goal.decreases-put_branches
decreases-put_branches l = 2 * max (size-Block l.c.now) (size-Block l.d.now) + 1

abbrev pub decreases-put_block : goal.decreases-put_block
decreases-put_block l = 2 * size-Block l.b.now
