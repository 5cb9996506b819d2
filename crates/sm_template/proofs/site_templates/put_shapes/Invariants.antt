-- The templates of the first kinds are there.
use Rattle.sm_template.proofs.Imports.{map, take, AddsTerms, AddsForms, shape_form}
use Rattle.sm_template.proofs.site_templates.put_shapes.Given as goal

abbrev pub invariant-loop-shape : goal.invariant-loop-shape
invariant-loop-shape l = record {
  grows : AddsTerms l.fn.table l.table;
  added : AddsForms l.fn.table l.table l.fn.list.items l.list.items
      (map (shape_form (l.x.0, l.sort)) (take l.shape-index l.shapes));
}
