-- What is put is the text of the names so far.
use Rattle.sm_text.proofs.Imports.{◌≡◌, ◌++◌, length, drop, more_names_pieces, AreOutputsIn, pieces_text, numbers_of}
use Rattle.sm_text.proofs.printing.sections.put_more_names.Given as goal

abbrev pub invariant-loop-x : goal.invariant-loop-x
invariant-loop-x l = record {
  named : AreOutputsIn (length l.names) (numbers_of (drop l.x-index l.list));
  same : l.out.items ++ pieces_text l.names (more_names_pieces (numbers_of (drop l.x-index l.list))) ≡ l.initial.out.items ++ pieces_text
      l.names (more_names_pieces (numbers_of l.list));
}
