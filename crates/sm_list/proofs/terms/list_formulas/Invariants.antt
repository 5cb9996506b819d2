-- The terms of the formulas that are left go behind those that are listed.
use Rattle.sm_list.proofs.Imports.{◌≡◌, length, drop, trees_in, sorts_in, with_formulas, all_numbered, assertions_in, AreFormulasWithin, trees_at, AreBelow, IsClosed}
use Rattle.sm_list.proofs.terms.list_formulas.Given as goal

abbrev pub invariant-loop-f : goal.invariant-loop-f
invariant-loop-f l =
    let trees = trees_in l.table in
    let left = all_numbered (drop l.f-index l.facts) in
    record {
      within : AreFormulasWithin (length trees) left;
      listed : AreBelow (length trees) l.listed;
      closed : IsClosed (trees_at trees l.listed);
      rest : with_formulas (assertions_in (sorts_in l.table) trees left) (trees_at trees l.listed)
          ≡ with_formulas (assertions_in (sorts_in l.table) trees (all_numbered l.fn.facts)) (trees_at trees l.fn.listed);
    }
