-- The lines of the cells so far, and of those that are left.
use Rattle.sm_explain.proofs.Imports.{◌≡◌, ◌++◌, drop, element_lines}
use Rattle.sm_explain.proofs.starts.put_cells.Given as goal

abbrev pub invariant-loop-c : goal.invariant-loop-c
invariant-loop-c l =
    l.out.items ++ element_lines l.names l.a.0 (drop l.c-index l.cells)
    ≡ l.fn.out.items ++ element_lines l.names l.a.0 l.cells
