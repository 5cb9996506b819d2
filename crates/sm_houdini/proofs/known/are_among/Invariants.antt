-- The formulas that are found so far.
use Rattle.sm_houdini.proofs.Imports.{◌≡◌, ◌≤◌, ◌<◌, ℕ, Bool, true, length, NumberedFormula, all_numbered, is_there}
use Rattle.std.proofs.Common.{Some, slice_get}
use Rattle.sm_houdini.proofs.known.are_among.Given as goal

abbrev pub invariant-loop-at : goal.invariant-loop-at
invariant-loop-at l = record {
  within : l.found ≤ length l.list;
  among : (closes : NumberedFormula → Bool) →
      ((j : ℕ) (g : NumberedFormula) → is_there (slice_get l.marks j) ≡ true → slice_get (all_numbered l.others) j ≡ Some g →
      closes g ≡ true) →
      (i : ℕ) (g : NumberedFormula) → i < l.found → slice_get (all_numbered l.list) i ≡ Some g → closes g ≡ true;
}
