-- What is put is the text of the fillings so far.
use Rattle.sm_text.proofs.Imports.{◌≡◌, ◌++◌, length, drop, fillings_of, filling_pieces, AreFilledIn, pieces_text, entries_for}
use Rattle.sm_text.proofs.printing.sections.put_fillings.Given as goal

abbrev pub invariant-loop-f : goal.invariant-loop-f
invariant-loop-f l = record {
  named : AreFilledIn (length l.names) (entries_for (drop l.f-index l.f-items));
  same : l.out.items ++ pieces_text l.names (filling_pieces (entries_for (drop l.f-index l.f-items))) ≡ l.initial.out.items ++ pieces_text
      l.names (filling_pieces (fillings_of l.fs));
}
