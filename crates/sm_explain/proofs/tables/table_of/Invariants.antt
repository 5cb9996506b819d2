-- The lines of the outputs so far.
use Rattle.sm_explain.proofs.Imports.{take, sorts_of, end_in, AreRows}
use Rattle.sm_explain.proofs.TableOutputs.{sorted}
use Rattle.sm_explain.proofs.tables.table_of.Given as goal

abbrev pub invariant-loop-x : goal.invariant-loop-x
invariant-loop-x l =
    AreRows l.names (end_in l.ends) (sorted (sorts_of l.ends.base) (take l.x-index l.outputs)) l.text.items
