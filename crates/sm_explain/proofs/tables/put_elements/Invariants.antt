-- The lines of the cells so far, and of those that are left.
use Rattle.sm_explain.proofs.Imports.{◌≡◌, ◌++◌, drop, end_in, element_rows}
use Rattle.sm_explain.proofs.tables.put_elements.Given as goal

abbrev pub invariant-loop-i : goal.invariant-loop-i
invariant-loop-i l =
    l.out.items ++ element_rows l.names (end_in l.ends) l.a.0 (drop l.i-index l.indices)
    ≡ l.fn.out.items ++ element_rows l.names (end_in l.ends) l.a.0 l.indices
