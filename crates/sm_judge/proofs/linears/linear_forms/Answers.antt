-- No form is there yet.
use Rattle.sm_term.specs.Tables.{trees_in}
use Rattle.sm_judge.proofs.LinearsLemmas.{no_forms}
use Rattle.sm_judge.proofs.linears.linear_forms.Goals as goal

pub add_linear_forms-requires : goal.add_linear_forms-requires
add_linear_forms-requires c = no_forms (trees_in c.args.table.now) c.new-forms.result.items c.new-forms.ensures.items
