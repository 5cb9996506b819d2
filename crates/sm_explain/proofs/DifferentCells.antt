-- The cells of an array at which four ends differ, among indices.
use Rattle.sm_explain.proofs.Imports.{◌≡◌, ◌⊎◌, ℕ, ℤ, pos, Bool, true, false, not, if◌then◌else◌, List, [], ◌∷◌, ◌++◌, refl, sym, ap, ◌∙◌, inl, inr, ⊎_elim, filter, Decides-int_eq, Copy, O, A, B, M, Cell, Element, content, Store, IsOf, Rise, agree, cell_rows, DifferAt, element_rows, AreElementRows}
use Rattle.sm_syntax.proofs.EachCopy.{each_copy}
use Rattle.sm_lemmas.proofs.Tests.{not_true}
use Rattle.sm_lemmas.proofs.Options.{one_of_four}

-- whether four ends have one value at a cell
abbrev pub agree_at : (Copy → Store) → Cell → Bool
agree_at end cell = agree (content (end O) cell) (content (end A) cell) (content (end B) cell) (content (end M) cell)

-- equal numbers are one value
one_value : (o a b m : ℤ) → o ≡ a → a ≡ b → b ≡ m → agree o a b m ≡ true
one_value o a b m oa ab bm =
    let first = (Decides-int_eq o a).1 oa in
    let second = (Decides-int_eq a b).1 ab in
    let third = (Decides-int_eq b m).1 bm in
    rw (first, second, third)

-- where all four have 0 they don't differ
pub zeros_agree : (end : Copy → Store) (cell : Cell) → ((c : Copy) → content (end c) cell ≡ pos 0) → agree_at end cell ≡ true
zeros_agree end cell nought =
    one_value (content (end O) cell) (content (end A) cell) (content (end B) cell) (content (end M) cell)
    (nought O ∙ sym (nought A)) (nought A ∙ sym (nought B)) (nought B ∙ sym (nought M))

-- an index at which a copy has no 0 is among some indices
abbrev pub Covers : (Copy → Store) → ℕ → List ℤ → Type 0
Covers end a indices = (c : Copy) (i : ℤ) → (content (end c) (Element a i) ≡ pos 0) ⊎ IsOf indices i

covered : (end : Copy → Store) (a : ℕ) (indices : List ℤ) → Covers end a indices → (i : ℤ) → DifferAt end (Element a i) → IsOf indices i
covered end a indices covers i differ =
    let at = λ (c : Copy). content (end c) (Element a i) in
    one_of_four (covers O i) (covers A i) (covers B i) (covers M i)
    (λ (o : at O ≡ pos 0) (of_a : at A ≡ pos 0) (of_b : at B ≡ pos 0) (m : at M ≡ pos 0).
    let agreed : agree_at end (Element a i) ≡ true =
    zeros_agree end (Element a i) (each_copy (λ (c : Copy). at c ≡ pos 0) o of_a of_b m) in
    let both : true ≡ false = sym agreed ∙ differ in cc)

-- the indices at which the ends differ
abbrev differing : (Copy → Store) → ℕ → List ℤ → List ℤ
differing end a indices = filter (λ (i : ℤ). not (agree_at end (Element a i))) indices

-- an index that passes a test
of_filter : (p : ℤ → Bool) (xs : List ℤ) (i : ℤ) → IsOf (filter p xs) i → IsOf xs i × (p i ≡ true)
of_filter p [] i h = absurd h
of_filter p (x ∷ xs) i h = by (p x) refl (λ (o : IsOf (filter p xs) i). of_filter p xs i o) h
  where
    by : (b : Bool) → p x ≡ b → (IsOf (filter p xs) i → IsOf xs i × (p i ≡ true))
        → IsOf (if b then x ∷ filter p xs else filter p xs) i → IsOf (x ∷ xs) i × (p i ≡ true)
    by true is rest h =
        ⊎_elim (λ (e : i ≡ x). (inl e, ap p e ∙ is)) (λ (o : IsOf (filter p xs) i). let more = rest o in (inr more.0, more.1)) h
    by false is rest h = let more = rest h in (inr more.0, more.1)

filter_of : (p : ℤ → Bool) (xs : List ℤ) (i : ℤ) → IsOf xs i → p i ≡ true → IsOf (filter p xs) i
filter_of p [] i h pass = absurd h
filter_of p (x ∷ xs) i h pass = by (p x) refl (λ (o : IsOf xs i). filter_of p xs i o pass)
  where
    by : (b : Bool) → p x ≡ b → (IsOf xs i → IsOf (filter p xs) i) → IsOf (if b then x ∷ filter p xs else filter p xs) i
    by true is rest = ⊎_elim (λ (e : i ≡ x). inl e) (λ (o : IsOf xs i). inr (rest o)) h
    by false is rest = ⊎_elim (λ (e : i ≡ x). let both : true ≡ false = sym pass ∙ ap p e ∙ is in cc) (λ (o : IsOf xs i). rest o) h

-- what passes still rises
filter_rises : (p : ℤ → Bool) (xs : List ℤ) → Rise xs → Rise (filter p xs)
filter_rises p [] r = tt
filter_rises p (x ∷ xs) r = by (p x) (filter_rises p xs r.1)
  where
    by : (b : Bool) → Rise (filter p xs) → Rise (if b then x ∷ filter p xs else filter p xs)
    by true rest = (λ (j : ℤ) (o : IsOf (filter p xs) j). r.0 j (of_filter p xs j o).0, rest)
    by false rest = rest

-- no line is lost, since a cell at which they agree has none
same_rows : (names : List (List ℕ)) (end : Copy → Store) (a : ℕ) (xs : List ℤ)
    → element_rows names end a xs ≡ element_rows names end a (differing end a xs)
same_rows names end a [] = refl
same_rows names end a (x ∷ xs) = by (agree_at end (Element a x)) refl (same_rows names end a xs)
  where
    by : (b : Bool) → agree_at end (Element a x) ≡ b → element_rows names end a xs ≡ element_rows names end a (differing end a xs)
        → cell_rows names end (Element a x) ++ element_rows names end a xs
        ≡ element_rows names end a (if not b then x ∷ differing end a xs else differing end a xs)
    by true is rest = rw is rest
    by false is rest = ap (λ (later : List ℕ). cell_rows names end (Element a x) ++ later) rest

-- the lines of an array
pub are_rows : (names : List (List ℕ)) (end : Copy → Store) (a : ℕ) (indices : List ℤ) → Rise indices → Covers end a indices
    → AreElementRows names end a (element_rows names end a indices)
are_rows names end a indices rise covers = record {
  indices = differing end a indices;
  rise = filter_rises (λ (i : ℤ). not (agree_at end (Element a i))) indices rise;
  each = λ (i : ℤ). (
    λ (o : IsOf (differing end a indices) i).
        not_true (agree_at end (Element a i)) (of_filter (λ (j : ℤ). not (agree_at end (Element a j))) indices i o).1,
    λ (differ : DifferAt end (Element a i)).
        filter_of (λ (j : ℤ). not (agree_at end (Element a j))) indices i (covered end a indices covers i differ) (ap not differ),
  );
  is = same_rows names end a indices;
}
