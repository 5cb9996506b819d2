-- The number at an index, in a list of cells and in one that was edited.
use Rattle.sm_eval.proofs.Imports.{◌≡◌, ◌<◌, ◌≢◌, ℕ, zero, suc, ℤ, pos, Bool, true, false, if◌then◌else◌, List, [], ◌∷◌, length, set, refl, sym, ap, ◌∙◌, arith, insert, remove, int_eq, Decides-int_eq, listed, index_at, cell_number_at, IsAt}
use Rattle.sm_eval.proofs.Integers.{int_same, int_differs}

-- no cell before a place has the index
abbrev pub NoneBefore : List (ℤ × ℤ) → ℤ → ℕ → Type 0
NoneBefore l i p = (q : ℕ) → q < p → index_at l q ≢ i

-- no cell after a place has the index
abbrev pub NoneAfter : List (ℤ × ℤ) → ℤ → ℕ → Type 0
NoneAfter l i p = (q : ℕ) → p < q → q < length l → index_at l q ≢ i

-- none in the rest either
none_before_rest : (c : ℤ × ℤ) (l : List (ℤ × ℤ)) (i : ℤ) (p : ℕ) → NoneBefore (c ∷ l) i (suc p) → NoneBefore l i p
none_before_rest c l i p none q lt = none (suc q) (omega arith)

none_after_rest : (c : ℤ × ℤ) (l : List (ℤ × ℤ)) (i : ℤ) (p : ℕ) → NoneAfter (c ∷ l) i (suc p) → NoneAfter l i p
none_after_rest c l i p none q lt here = none (suc q) (omega arith) (omega arith)

-- in the rest, a cell stands one place lower
is_at_rest : (c : ℤ × ℤ) (l : List (ℤ × ℤ)) (i : ℤ) (p : ℕ) → IsAt (c ∷ l) i (suc p) → IsAt l i p
is_at_rest c l i p at = record { in_range = omega (arith, at.in_range); same = at.same }

-- the first cell of another index is passed
first_passed : (c : ℤ × ℤ) (l : List (ℤ × ℤ)) (i : ℤ) → c.0 ≢ i → listed (c ∷ l) i ≡ listed l i
first_passed c l i differs = ap (λ (b : Bool). if b then c.1 else listed l i) (int_differs i c.0 (λ (same : i ≡ c.0). differs (sym same)))

-- an index that no cell has
pub listed_absent : (l : List (ℤ × ℤ)) (i : ℤ) → NoneBefore l i (length l) → listed l i ≡ pos 0
listed_absent [] i none = refl
listed_absent (c ∷ l) i none =
    first_passed c l i (none 0 (omega arith)) ∙ listed_absent l i (λ (q : ℕ) (lt : q < length l). none (suc q) (omega arith))

-- the first cell that has the index gives the number
pub listed_present : (l : List (ℤ × ℤ)) (i : ℤ) (p : ℕ) → IsAt l i p → NoneBefore l i p → listed l i ≡ cell_number_at l p
listed_present [] i p at none = absurd (omega (arith, at.in_range))
listed_present (c ∷ l) i zero at none = ap (λ (b : Bool). if b then c.1 else listed l i) (int_same i c.0 (sym at.same))
listed_present (c ∷ l) i (suc p) at none =
    first_passed c l i (none 0 (omega arith)) ∙ listed_present l i p (is_at_rest c l i p at) (none_before_rest c l i p none)

-- two choices that don't both hold, in either order
exchanged : (a b : Bool) (x y z : ℤ) → (a ≡ true → b ≡ true → ⊥)
    → (if a then x else (if b then y else z)) ≡ (if b then y else (if a then x else z))
exchanged true true x y z apart = absurd (apart refl refl)
exchanged true false x y z apart = refl
exchanged false true x y z apart = refl
exchanged false false x y z apart = refl

-- an index isn't two that differ
apart_tests : (q i j : ℤ) → i ≢ j → int_eq q i ≡ true → int_eq q j ≡ true → ⊥
apart_tests q i j differs first second = differs (sym ((Decides-int_eq q i).0 first) ∙ (Decides-int_eq q j).0 second)

-- a first cell before an edit of the rest
after_first : (c : ℤ × ℤ) (l new : List (ℤ × ℤ)) (i z q : ℤ) → c.0 ≢ i → listed new q ≡ (if int_eq q i then z else listed l q) →
    listed (c ∷ new) q ≡ (if int_eq q i then z else listed (c ∷ l) q)
after_first c l new i z q differs rest =
    ap (λ (r : ℤ). if int_eq q c.0 then c.1 else r) rest ∙
    exchanged (int_eq q c.0) (int_eq q i) c.1 z (listed l q) (apart_tests q c.0 i differs)

-- a choice that is asked again
asked_again : (b : Bool) (x y z : ℤ) → (if b then x else z) ≡ (if b then x else (if b then y else z))
asked_again true x y z = refl
asked_again false x y z = refl

-- another number for the cell of the index
pub listed-set : (l : List (ℤ × ℤ)) (i z : ℤ) (p : ℕ) → IsAt l i p → NoneBefore l i p → (q : ℤ) →
    listed (set l p (i, z)) q ≡ (if int_eq q i then z else listed l q)
listed-set [] i z p at none q = absurd (omega (arith, at.in_range))
listed-set (c ∷ l) i z zero at none q =
    asked_again (int_eq q i) z c.1 (listed l q) ∙
    ap (λ (j : ℤ). if int_eq q i then z else (if int_eq q j then c.1 else listed l q)) (sym at.same)
listed-set (c ∷ l) i z (suc p) at none q =
    after_first c l (set l p (i, z)) i z q (none 0 (omega arith))
    (listed-set l i z p (is_at_rest c l i p at) (none_before_rest c l i p none) q)

-- a new cell, before any that has the index
pub listed-insert : (l : List (ℤ × ℤ)) (i z : ℤ) (p : ℕ) → NoneBefore l i p → (q : ℤ) →
    listed (insert l p (i, z)) q ≡ (if int_eq q i then z else listed l q)
listed-insert l i z zero none q = refl
listed-insert [] i z (suc p) none q = refl
listed-insert (c ∷ l) i z (suc p) none q =
    after_first c l (insert l p (i, z)) i z q (none 0 (omega arith)) (listed-insert l i z p (none_before_rest c l i p none) q)

-- what is 0 where the index is asked for
pub zero_there : (b : Bool) (r : ℤ) → (b ≡ true → r ≡ pos 0) → r ≡ (if b then pos 0 else r)
zero_there true r none = none refl
zero_there false r none = refl

-- without the only cell of the index
pub listed-remove : (l : List (ℤ × ℤ)) (i : ℤ) (p : ℕ) → IsAt l i p → NoneBefore l i p → NoneAfter l i p → (q : ℤ) →
    listed (remove l p) q ≡ (if int_eq q i then pos 0 else listed l q)
listed-remove [] i p at before after q = absurd (omega (arith, at.in_range))
listed-remove (c ∷ l) i zero at before after q =
    zero_there (int_eq q i) (listed l q)
    (λ (same : int_eq q i ≡ true).
    ap (listed l) ((Decides-int_eq q i).0 same) ∙
    listed_absent l i (λ (r : ℕ) (lt : r < length l). after (suc r) (omega arith) (omega arith))) ∙
    asked_again (int_eq q i) (pos 0) c.1 (listed l q) ∙
    ap (λ (j : ℤ). if int_eq q i then pos 0 else (if int_eq q j then c.1 else listed l q)) (sym at.same)
listed-remove (c ∷ l) i (suc p) at before after q =
    after_first c l (remove l p) i (pos 0) q (before 0 (omega arith))
    (listed-remove l i p (is_at_rest c l i p at) (none_before_rest c l i p before) (none_after_rest c l i p after) q)
