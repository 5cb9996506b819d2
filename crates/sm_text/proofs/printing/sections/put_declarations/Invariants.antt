-- What is put is the text of the declarations so far.
use Rattle.sm_text.proofs.Imports.{◌≡◌, ◌++◌, length, drop, declared_of, declaration_pieces, AreDeclaredIn, pieces_text, entries_of}
use Rattle.sm_text.proofs.printing.sections.put_declarations.Given as goal

abbrev pub invariant-loop-d : goal.invariant-loop-d
invariant-loop-d l = record {
  named : AreDeclaredIn (length l.names) (entries_of (drop l.d-index l.d-items));
  same : l.out.items ++ pieces_text l.names (declaration_pieces (entries_of (drop l.d-index l.d-items))) ≡ l.initial.out.items ++
      pieces_text l.names (declaration_pieces (declared_of l.decls));
}
