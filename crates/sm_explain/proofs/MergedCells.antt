-- The indices of an array's cells.
use Rattle.sm_explain.proofs.Imports.{◌≡◌, ◌⊎◌, ◌<◌, ℕ, suc, ℤ, pos, Bool, true, false, if◌then◌else◌, List, [], ◌∷◌, length, refl, sym, subst, inl, inr, ⊎_elim, arith, ◌<ℤ◌, int_eq, Decides-int_eq, listed, index_at, IsAscending, Copy, O, A, B, M, IsOf, Rise, firsts}

-- an index of a cell is that of the cell at some place
place_of : (cells : List (ℤ × ℤ)) (i : ℤ) → IsOf (firsts cells) i → (p : ℕ) × (p < length cells) × (i ≡ index_at cells p)
place_of [] i h = absurd h
place_of (c ∷ cells) i h =
    ⊎_elim (λ (e : i ≡ c.0). (0, omega arith, e))
    (λ (o : IsOf (firsts cells) i). let at = place_of cells i o in (suc at.0, omega (arith, at.1), at.2)) h

-- ascending cells have rising indices
pub rise_of : (cells : List (ℤ × ℤ)) → IsAscending cells → Rise (firsts cells)
rise_of [] up = tt
rise_of (c ∷ cells) up = (
  λ (j : ℤ) (o : IsOf (firsts cells) j).
      let at = place_of cells j o in
      subst (λ (z : ℤ). c.0 <ℤ z) (sym at.2) (up 0 (suc at.0) (omega arith) (omega (arith, at.1))),
  rise_of cells (λ (p q : ℕ) (lt : p < q) (within : q < length cells). up (suc p) (suc q) (omega (arith, lt)) (omega (arith, within))),
)

-- an index has 0, or a cell
pub zero_or_of : (cells : List (ℤ × ℤ)) (i : ℤ) → (listed cells i ≡ pos 0) ⊎ IsOf (firsts cells) i
zero_or_of [] i = inl refl
zero_or_of (c ∷ cells) i = by (int_eq i c.0) (Decides-int_eq i c.0).0 (zero_or_of cells i)
  where
    by : (b : Bool) → (b ≡ true → i ≡ c.0) → (listed cells i ≡ pos 0) ⊎ IsOf (firsts cells) i
        → ((if b then c.1 else listed cells i) ≡ pos 0) ⊎ IsOf (firsts (c ∷ cells)) i
    by true same rest = inr (inl (same refl))
    by false same rest = ⊎_elim (λ (z : listed cells i ≡ pos 0). inl z) (λ (o : IsOf (firsts cells) i). inr (inr o)) rest

-- what each list has is in the one that they are merged into
carried : {Z : Type 0} (xs ys : List ℤ) (i : ℤ) → (IsOf xs i → IsOf ys i) → Z ⊎ IsOf xs i → Z ⊎ IsOf ys i
carried {Z} xs ys i kept known = ⊎_elim (λ (z : Z). inl z) (λ (o : IsOf xs i). inr (kept o)) known

-- one list has what another has
abbrev pub Within : List ℤ → List ℤ → Type 0
Within xs ys = (i : ℤ) → IsOf xs i → IsOf ys i

-- of four lists, merged one after the other
pub of_four : (Z : Copy → ℤ → Type 0) (o a b m with_a with_b all : List ℤ)
    → ((i : ℤ) → Z O i ⊎ IsOf o i) → ((i : ℤ) → Z A i ⊎ IsOf a i) → ((i : ℤ) → Z B i ⊎ IsOf b i) → ((i : ℤ) → Z M i ⊎ IsOf m i)
    → Within o with_a → Within a with_a → Within with_a with_b → Within b with_b → Within with_b all → Within m all
    → (c : Copy) (i : ℤ) → Z c i ⊎ IsOf all i
of_four Z o a b m with_a with_b all ko ka kb km oa aa ab bb bm mm O i =
    carried with_b all i (bm i) (carried with_a with_b i (ab i) (carried o with_a i (oa i) (ko i)))
of_four Z o a b m with_a with_b all ko ka kb km oa aa ab bb bm mm A i =
    carried with_b all i (bm i) (carried with_a with_b i (ab i) (carried a with_a i (aa i) (ka i)))
of_four Z o a b m with_a with_b all ko ka kb km oa aa ab bb bm mm B i = carried with_b all i (bm i) (carried b with_b i (bb i) (kb i))
of_four Z o a b m with_a with_b all ko ka kb km oa aa ab bb bm mm M i = carried m all i (mm i) (km i)
