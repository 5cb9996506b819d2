-- What proofs of this crate name of definitions and of the lemmas of other crates.
pub use Rattle.std.proofs.Common.{Bool, IsTrue, List, [], ap, arith, div-add-mod', div-le_self, div-lt_iff_lt-mul, drop, eq-zero-or-pos, false, filter, get_or, if◌then◌else◌, inl, inr, le-div_iff_mul-le, length, map, mod-lt, mul-le-mul_left, mul-le-mul_right, mul-pos, nat_abs, nat_lt, neg_ℤ, negsuc, not, pos, refl, rules, subst, suc, sym, take, true, zero, ℕ, ℤ, ⊎_elim, ◌%◌, ◌&&◌, ◌*ℤ◌, ◌*◌, ◌++◌, ◌+ℤ◌, ◌+◌, ◌-◌, ◌/◌, ◌<ℤ◌, ◌<◌, ◌==◌, ◌^◌, ◌||◌, ◌↔◌, ◌∙◌, ◌∷◌, ◌≡◌, ◌≢◌, ◌≤ℤ◌, ◌≤◌, ◌⊎◌}
pub use Rattle.std.proofs.Math.Seq.{drop-cons, take-nil}
pub use Rattle.std.proofs.lemmas.Bool.{and_parts, cases_Bool, eq-eqb, eqb-false, eqb-true, lt-ltb, ltb-false, ltb-true, ne_eqb}
pub use Rattle.std.proofs.lemmas.Bool.Decides.{Decides-eqb, Decides-int_eq, Decides-ltb}
pub use Rattle.std.proofs.lemmas.Int.{by_lt_z, ints, to_z-of_z, unsigned_abs-mul}
pub use Rattle.std.proofs.lemmas.Nat.Gcd.{IsGcd-from_mod, IsGcd-from_zero, dvd-zero, dvd_antisymm, dvd_refl, dvd_trans, le_of_dvd, same_from_IsGcd}
pub use Rattle.std.proofs.lemmas.Result.{err_from_is_err_and}
pub use Rattle.std.specs.Int.{IsGcd, w128, ◌∣◌}
pub use Rattle.std.specs.Ordering.{int_eq}
pub use Rattle.sm_num.specs.Combining.{Add, Fits, Leaves, Mul, Op, Outcome, combination, combined, combined_number, computed, formed, joined_parts, led_by, merged, merged_part, met_part, scaled, then_with, with_part}
pub use Rattle.sm_num.specs.Eliminating.{can_cancel, ceiling_of, divided, divided_parts, divisor_of_parts, eliminated, elimination, floor_of, gcd, gcd_within, is_equation, is_negative, kind_of_sum, multipliers, signs_alike, then_divided}
pub use Rattle.sm_num.specs.Errors.{Beyond, Explains, Memory, NumError}
pub use Rattle.sm_num.specs.FormLaws.{AreAlike, ComeOutAlike, IsRenaming, renamed_outcome, same_atom, value_of_form}
pub use Rattle.sm_num.specs.Forms.{AreParts, Eq, HoldsAt, IsKept, Kind, Le, Linear, Satisfies, coefficient, parts_without, renamed_form, sum_of_parts, without}
pub use Rattle.sm_num.specs.Merging.{behind}
pub use Rattle.sm_num.specs.Range.{exact, fits, fits_form}
pub use Rattle.sm_num.specs.Tightening.{fails, has_no_part, is_contradictory, one_is_zero, tightened, tightened_by}
