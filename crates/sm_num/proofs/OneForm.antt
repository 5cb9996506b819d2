-- A list of parts counted once, coefficients past those of a form, and what tests of signs and kinds say.
use Rattle.sm_num.proofs.Imports.{◌≡◌, ◌<◌, ℕ, suc, ℤ, pos, List, ◌∷◌, length, get_or, drop, ap, subst, ◌∙◌, arith, if◌then◌else◌, IsTrue, negsuc, ◌<ℤ◌, true, refl, false, [], ⊎_elim, drop-cons, coefficient, AreParts, Kind, Le, Eq, same_atom, fits_form, Fits, Leaves, computed, Outcome, led_by, merged, is_negative, is_equation, int_eq, cases_Bool, Decides-int_eq}
use Rattle.sm_num.proofs.KeptForms.{coefficient_below, dropped}
use Rattle.sm_num.proofs.RingLemmas.{one_mul, sums}
use Rattle.sm_num.specs.declared.op.Op.TheVariants as op

-- where the part at a place has a later atom, none from there on has the atom
pub coefficient_past : (t i : ℕ) (ps : List (ℕ × ℤ)) → AreParts 0 ps → i < length ps → t < (get_or ps i (0, pos 0)).0 →
    coefficient same_atom t (drop i ps) ≡ pos 0
coefficient_past t i ps kept within later =
    let shown = drop-cons ps i (0, pos 0) within in
    let rest = subst (AreParts 0) shown (dropped 0 i ps kept) in
    ap (coefficient same_atom t) shown
    ∙ coefficient_below t (get_or ps i (0, pos 0)).0 (get_or ps i (0, pos 0) ∷ drop (suc i) ps) later
    (from_its_first (get_or ps i (0, pos 0)) (drop (suc i) ps) rest)
  where
    from_its_first : (p : ℕ × ℤ) (rest : List (ℕ × ℤ)) → AreParts 0 (p ∷ rest) → AreParts p.0 (p ∷ rest)
    from_its_first p rest parts = (omega arith, parts.1, parts.2, parts.3)

-- once a number in the range is the number
pub computed_once : (z : ℤ) → IsTrue (fits_form z) → computed op.Mul (pos 1) z ≡ Fits z
computed_once z fits =
    ap (λ (y : ℤ). if fits_form y then Fits y else Leaves op.Mul (pos 1) z) (one_mul z)
    ∙ ap (λ b. if b then Fits z else Leaves op.Mul (pos 1) z) fits

-- signs by their tests
pub negative_below : (z : ℤ) → is_negative z ≡ true → z <ℤ pos 0
negative_below (pos n) e = absurd cc
negative_below (negsuc n) e = omega (arith, sums)

-- an equation, by its test
pub equation_is : (kind : Kind) → is_equation kind ≡ true → kind ≡ Eq
equation_is Le e = absurd cc
equation_is Eq e = refl

-- once kept parts, with no others, are the parts
pub merged_once : (least : ℕ) (ps : List (ℕ × ℤ)) → AreParts least ps → merged (pos 1) (pos 1) ps [] ≡ Fits ps
merged_once least [] parts = refl
merged_once least (p ∷ ps) parts =
    ap (λ (c : Outcome ℤ). led_by p.0 c (merged (pos 1) (pos 1) ps [])) (computed_once p.1 parts.1)
    ∙ ap (λ (rest : Outcome (List (ℕ × ℤ))). led_by p.0 (Fits p.1) rest) (merged_once _ ps parts.3)
    ∙ ap (λ b. Fits (if b then ps else (p.0, p.1) ∷ ps)) (not_zero p.1 parts.2)
  where
    not_zero : (z : ℤ) → (z ≡ pos 0 → ⊥) → int_eq z (pos 0) ≡ false
    not_zero z h =
        ⊎_elim
        (λ (e : int_eq z (pos 0) ≡ true). absurd (h ((Decides-int_eq z (pos 0)).0 e)))
        (λ (e : int_eq z (pos 0) ≡ false). e)
        (cases_Bool (int_eq z (pos 0)))
