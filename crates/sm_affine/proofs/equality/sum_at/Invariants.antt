-- The sum of all parts and the constant is that of the parts from here on and the sum so far.
use Rattle.std.proofs.Common.{◌≡◌, ◌+ℤ◌, drop}
use Rattle.sm_num.specs.Forms.{sum_of_parts}
use Rattle.sm_num.specs.FormLaws.{value_of_form}
use Rattle.sm_affine.specs.Equalities.{number_in, columns_of, form_of}
use Rattle.sm_affine.proofs.equality.sum_at.Given as goal

abbrev pub invariant-loop-part : goal.invariant-loop-part
invariant-loop-part l =
    value_of_form (number_in l.row) (form_of l.equality) ≡ sum_of_parts (number_in l.row) (columns_of (drop l.part-index l.part-items)) +ℤ l.sum
