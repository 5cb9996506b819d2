-- What Keeps says of the candidate's value.
use Rattle.sm_syntax.proofs.Imports.{◌≡◌, ◌≢◌, ◌⊎◌, ◌↔◌, ℤ, inl, inr, ⊎_elim, sym, ◌∙◌, cases_Bool, not_from_Decides, Keeps, KeepsChange}
use Rattle.std.specs.Cmp.{signed_Decides}
use Rattle.std.specs.Ordering.{int_eq}

-- two whole numbers are equal or not
pub int_cases : (x y : ℤ) → (x ≡ y) ⊎ (x ≡ y → ⊥)
int_cases x y =
    ⊎_elim
    (λ yes. inl ((signed_Decides x y).0 yes))
    (λ no. inr (not_from_Decides (int_eq x y) (signed_Decides x y) no))
    (cases_Bool (int_eq x y))

-- a change that the variant made is the candidate's value
taken : (base variant candidate : ℤ) → KeepsChange base variant candidate → base ≢ variant → candidate ≡ variant
taken base variant candidate kept changed = ⊎_elim (λ same. absurd (changed same)) (λ new. new) kept

-- a candidate that has the variant's value, if the variant changed it, keeps the change
keeps_taken : (base variant candidate : ℤ) → (base ≢ variant → candidate ≡ variant) → KeepsChange base variant candidate
keeps_taken base variant candidate new = ⊎_elim (λ same. inl same) (λ changed. inr (new changed)) (int_cases base variant)

-- Keeps holds exactly of A's value where A changed it, of B's where B changed it, and of the base's where neither did
pub keeps_exactly : (base a b candidate : ℤ) →
    Keeps base a b candidate ↔ ((base ≢ a → candidate ≡ a) × (base ≢ b → candidate ≡ b) × (base ≡ a → base ≡ b → candidate ≡ base))
keeps_exactly base a b candidate = (
  λ (k : Keeps base a b candidate). (
    taken base a candidate k.change_of_a,
    taken base b candidate k.change_of_b,
    λ (at_a : base ≡ a) (at_b : base ≡ b). k.no_other at_a (sym at_a ∙ at_b),
  ),
  λ (h : (base ≢ a → candidate ≡ a) × (base ≢ b → candidate ≡ b) × (base ≡ a → base ≡ b → candidate ≡ base)). record {
    change_of_a = keeps_taken base a candidate h.0;
    change_of_b = keeps_taken base b candidate h.1;
    no_other = λ (at_a : base ≡ a) (same : a ≡ b). h.2 at_a (at_a ∙ same);
  },
)
