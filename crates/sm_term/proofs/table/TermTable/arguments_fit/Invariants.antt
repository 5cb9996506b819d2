-- what is left to look at decides.
use Rattle.sm_term.proofs.Imports.{◌≡◌, drop, length, arguments_fit, trees_in, sorts_in}
use Rattle.sm_term.proofs.table.TermTable.arguments_fit.Given as goal

abbrev pub invariant-loop-i : goal.invariant-loop-i
invariant-loop-i l = record {
  long : length l.from ≡ length l.args;
  rest : arguments_fit (sorts_in l.self) (trees_in l.self) l.from l.args ≡ arguments_fit (sorts_in l.self) (trees_in l.self) (drop l.i l.from) (drop l.i l.args);
}
