-- The forms before are the same.
use Rattle.std.proofs.Common.{◌≡◌, take}
use Rattle.sm_solve.proofs.same_forms.are_same.Given as goal

abbrev pub invariant-loop-i : goal.invariant-loop-i
invariant-loop-i l = take l.i l.forms ≡ take l.i l.others
