-- What a store has after one new value.
use Rattle.sm_syntax.proofs.Imports.{◌≡◌, ℕ, Bool, if◌then◌else◌, refl, ap, sym, ◌∙◌, ⊎_elim, eq-eqb, cases_eq, ne_eqb, fun_ext, Value, Store, put}

-- the new value
pub put_at : (s : Store) (x : ℕ) (v : Value) → put s x v x ≡ v
put_at s x v = ap (λ (b : Bool). if b then v else s x) (eq-eqb x x refl)

-- each other name keeps its value
pub put_past : (s : Store) (x : ℕ) (v : Value) (y : ℕ) → (y ≡ x → ⊥) → put s x v y ≡ s y
put_past s x v y other = ap (λ (b : Bool). if b then v else s y) (ne_eqb y x other)

-- a store with the new value that keeps each other name's
pub put_is : (s t : Store) (x : ℕ) (v : Value) → t x ≡ v → ((y : ℕ) → (y ≡ x → ⊥) → t y ≡ s y) → t ≡ put s x v
put_is s t x v at past =
    fun_ext (λ (y : ℕ).
    ⊎_elim
    (λ (same : y ≡ x). ap t same ∙ at ∙ sym (put_at s x v) ∙ ap (put s x v) (sym same))
    (λ (other : y ≡ x → ⊥). past y other ∙ sym (put_past s x v y other))
    (cases_eq y x))
