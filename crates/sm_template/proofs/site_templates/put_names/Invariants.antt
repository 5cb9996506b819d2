-- The templates of the first names are there.
use Rattle.sm_template.proofs.Imports.{take, flat_map, AddsTerms, AddsForms, name_templates}
use Rattle.sm_template.proofs.TemplatesMade.{names_of}
use Rattle.sm_template.proofs.site_templates.put_names.Given as goal

abbrev pub invariant-loop-d : goal.invariant-loop-d
invariant-loop-d l = record {
  grows : AddsTerms l.fn.table l.table;
  added : AddsForms l.fn.table l.table l.fn.list.items l.list.items
      (flat_map (name_templates l.literals) (names_of (take l.d-index l.d-items)));
}
