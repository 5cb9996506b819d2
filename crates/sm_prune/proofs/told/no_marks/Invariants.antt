-- There are marks for what the lines so far make.
use Rattle.sm_prune.proofs.Imports.{false, take, map, line_of, AreMarks, terms_past, forms_past}
use Rattle.sm_prune.proofs.told.no_marks.Given as goal

abbrev pub invariant-loop-line : goal.invariant-loop-line
invariant-loop-line l = record {
  terms : AreMarks (terms_past 0 (map line_of (take l.line-index l.lines))) (λ n. false) l.terms.items;
  forms : AreMarks (forms_past 0 (map line_of (take l.line-index l.lines))) (λ n. false) l.forms.items;
}
