-- The coefficient of an atom among ascending parts.
use Rattle.sm_exact.proofs.Imports.{◌<◌, ℕ, ℤ, pos, List, [], length, get_or, drop, subst, IsTrue, fits_form, coefficient, AreParts, dropped}
use Rattle.std.proofs.Math.Seq.{drop-cons}

-- the coefficient of the part at a place is in the range
pub part_fits : (i : ℕ) (ps : List (ℕ × ℤ)) → AreParts 0 ps → i < length ps → IsTrue (fits_form (get_or ps i (0, pos 0)).1)
part_fits i ps kept within =
    let shown = drop-cons ps i (0, pos 0) within in
    let rest = subst (AreParts 0) shown (dropped 0 i ps kept) in
    rest.1
