-- The formulas so far are over terms of the table, of the sorts that they need.
use Rattle.calls.proofs.Imports.{length, AreFormsSorted, trees_in, sorts_in, all_numbered, assertions_in, AreFormulasWithin}
use Rattle.calls.proofs.solving.formulas.Given as goal

abbrev pub invariant-loop-fact : goal.invariant-loop-fact
invariant-loop-fact l =
    AreFormulasWithin (length (trees_in l.scene.table)) (all_numbered l.list.items)
    × AreFormsSorted (sorts_in l.scene.table)
    (assertions_in (sorts_in l.scene.table) (trees_in l.scene.table) (all_numbered l.list.items))
