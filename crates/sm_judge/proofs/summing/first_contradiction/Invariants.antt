-- None of the forms before is a contradiction.
use Rattle.sm_judge.proofs.Imports.{◌≡◌, drop, list_any, is_contradictory}
use Rattle.sm_judge.proofs.summing.first_contradiction.Given as goal

abbrev pub invariant-loop-i : goal.invariant-loop-i
invariant-loop-i l = list_any is_contradictory (drop l.i l.forms) ≡ list_any is_contradictory l.forms
