-- Private: the new numbers of terms and formulas, as the program has them.
use Rattle.sm_prune.specs.declared.numbers.Numbers.{Numbers}
use Rattle.sm_prune.specs.LeftLines.{Numbering}

-- what they stand for
abbrev pub numbering_of : Numbers → Numbering
numbering_of n = record {
  terms = n.terms.items;
  forms = n.forms.items;
  terms_left = n.terms_left;
  forms_left = n.forms_left;
}
