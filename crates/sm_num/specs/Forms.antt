-- Cited by public clauses: linear forms over atoms of any type, and what they say. Where a test of
-- atoms is asked for, it says which atoms are the same.
use Rattle.std.specs.Prelude.{◌≡◌, ◌≢◌, ◌≤◌, ℕ, suc, IsTrue, ℤ, pos, ◌+ℤ◌, ◌*ℤ◌, ◌≤ℤ◌, Bool, if◌then◌else◌, not, List, [], ◌∷◌, map}
use Rattle.std.specs.List.{filter}
use Rattle.sm_num.specs.Range.{fits_form}
pub use Rattle.sm_num.specs.declared.kind.Kind.{Kind}
pub use Rattle.sm_num.specs.declared.kind.Kind.TheVariants.{Eq, Le}

-- parts, each an atom with its coefficient, and a constant, whose sum is at most 0 or is 0
pub record Linear (A : Type 0) : Type 0 where
  pub parts : List (A × ℤ)
  pub constant : ℤ
  pub kind : Kind

-- a sum is as its kind says
abbrev pub Satisfies : Kind → ℤ → Type 0
Satisfies Le z = z ≤ℤ pos 0
Satisfies Eq z = z ≡ pos 0

-- the sum of parts where each atom has a value
abbrev pub sum_of_parts : {A : Type 0} → (A → ℤ) → List (A × ℤ) → ℤ
sum_of_parts v [] = pos 0
sum_of_parts v (p ∷ ps) = (p.1 *ℤ v p.0) +ℤ sum_of_parts v ps

-- a form holds where its atoms have these values
abbrev pub HoldsAt : {A : Type 0} → (A → ℤ) → Linear A → Type 0
HoldsAt v f = Satisfies f.kind (sum_of_parts v f.parts +ℤ f.constant)

-- the coefficient of an atom, 0 where it has none; of an atom that stands twice, the sum
abbrev pub coefficient : {A : Type 0} → (A → A → Bool) → A → List (A × ℤ) → ℤ
coefficient same a [] = pos 0
coefficient same a (p ∷ ps) =
    if same a p.0 then p.1 +ℤ coefficient same a ps else coefficient same a ps

-- the parts at other atoms
abbrev pub parts_without : {A : Type 0} → (A → A → Bool) → A → List (A × ℤ) → List (A × ℤ)
parts_without same a ps = filter (λ p. not (same a p.0)) ps

-- the form without an atom
abbrev pub without : {A : Type 0} → (A → A → Bool) → A → Linear A → Linear A
without same a f =
    record { parts = parts_without same a f.parts; constant = f.constant; kind = f.kind }

-- the form over other atoms
abbrev pub renamed_form : {A B : Type 0} → (A → B) → Linear A → Linear B
renamed_form rename f = record {
  parts = map (λ p. (rename p.0, p.1)) f.parts;
  constant = f.constant;
  kind = f.kind;
}

-- parts with ascending atoms, from a least one on, whose coefficients are in the range and not 0
abbrev pub AreParts : ℕ → List (ℕ × ℤ) → Type 0
AreParts least [] = Unit {0}
AreParts least (p ∷ ps) =
    (least ≤ p.0) × IsTrue (fits_form p.1) × (p.1 ≢ pos 0) × AreParts (suc p.0) ps

-- a form as the program keeps it
pub record IsKept (f : Linear ℕ) : Type 0 where
  pub parts : AreParts 0 f.parts
  pub constant : IsTrue (fits_form f.constant)
