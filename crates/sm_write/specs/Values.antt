-- Private: what a writer of the program stands for.
use Rattle.std.specs.Prelude.{length, nat_eq}
use Rattle.std.specs.HashMap.{get}
use Rattle.sm_write.specs.declared.writer.Writer.{Writer}
use Rattle.sm_write.specs.Writers.{WriterValue}

-- its text, whether that has lines `exact`, its names, and how many terms, formulas and nodes it has
abbrev pub value_of : Writer → WriterValue
value_of w = record {
  text = w.text.items;
  exact = w.exact;
  names = get nat_eq w.names;
  terms = length w.order.items;
  forms = w.forms;
  nodes = w.nodes;
}
