-- The least index at which Keeps fails, found among the cells of four arrays.
use Rattle.sm_replay.proofs.Imports.{◌≡◌, ◌⊎◌, ◌+◌, ◌<◌, ℕ, suc, ℤ, pos, Bool, true, false, if◌then◌else◌, Option, List, [], ◌∷◌, length, refl, sym, ap, subst, ◌∙◌, inl, inr, ⊎_elim, arith, int_eq, cases_eq, Decides-int_eq, Copy, O, A, B, M, Keeps, Element, content, Array, Store, listed, index_at, IsUpTo, KeepsAt}
use Rattle.sm_syntax.specs.claim.Stores.{Value, array}
use Rattle.sm_lemmas.proofs.Options.{one_of_four}

-- an index has 0, or a cell
listed_or : (l : List (ℤ × ℤ)) (i : ℤ) → (listed l i ≡ pos 0) ⊎ ((p : ℕ) × (p < length l) × (index_at l p ≡ i))
listed_or [] i = inl refl
listed_or (c ∷ l) i = by (int_eq i c.0) (Decides-int_eq i c.0).0 (listed_or l i)
  where
    by : (b : Bool) → (b ≡ true → i ≡ c.0) → (listed l i ≡ pos 0) ⊎ ((p : ℕ) × (p < length l) × (index_at l p ≡ i))
        → ((if b then c.1 else listed l i) ≡ pos 0) ⊎ ((p : ℕ) × (p < length (c ∷ l)) × (index_at (c ∷ l) p ≡ i))
    by true same rest = inr (0, omega arith, sym (same refl))
    by false same rest =
        ⊎_elim (λ (z : listed l i ≡ pos 0). inl z)
        (λ (h : (p : ℕ) × (p < length l) × (index_at l p ≡ i)). inr (suc h.0, omega (arith, h.1), h.2)) rest

-- each cell's index was looked at
abbrev pub Seen : (Copy → Store) → ℕ → List (ℤ × ℤ) → Option ℤ → Type 0
Seen end a l r = (p : ℕ) → p < length l → KeepsAt end (Element a (index_at l p)) ⊎ IsUpTo r (index_at l p)

-- an index that isn't above what was found before isn't above what is found now
abbrev pub Later : Option ℤ → Option ℤ → Type 0
Later old new = (i : ℤ) → IsUpTo old i → IsUpTo new i

-- what is known of an index by the cells of one array
abbrev pub Known : (Copy → Store) → ℕ → Option ℤ → ℤ → Type 0
Known end a r i = KeepsAt end (Element a i) ⊎ IsUpTo r i

known : (end : Copy → Store) (a : ℕ) (l : List (ℤ × ℤ)) (r new : Option ℤ) → Seen end a l r → Later r new → (i : ℤ)
    → (listed l i ≡ pos 0) ⊎ Known end a new i
known end a l r new seen later i =
    ⊎_elim (λ (z : listed l i ≡ pos 0). inl z)
    (λ (h : (p : ℕ) × (p < length l) × (index_at l p ≡ i)).
    inr (subst (λ (j : ℤ). Known end a new j) h.2
    (⊎_elim (λ (k : KeepsAt end (Element a (index_at l h.0))). inl k) (λ (u : IsUpTo r (index_at l h.0)). inr (later (index_at l h.0) u))
    (seen h.0 h.1))))
    (listed_or l i)

-- four numbers that are 0
pub all_zero : (o a b m : ℤ) → o ≡ pos 0 → a ≡ pos 0 → b ≡ pos 0 → m ≡ pos 0 → Keeps o a b m
all_zero o a b m po pa pb pm = record {
  change_of_a = inl (po ∙ sym pa);
  change_of_b = inl (po ∙ sym pb);
  no_other = λ (e : o ≡ a) (f : a ≡ b). pm ∙ sym po;
}

-- an index at which a copy's end has 0, or one that is known after its cells
abbrev pub KnownBy : (Copy → Store) → Copy → ℕ → Option ℤ → Type 0
KnownBy end c a r = (i : ℤ) → (content (end c) (Element a i) ≡ pos 0) ⊎ Known end a r i

-- after the cells of a copy's end
pub known_by : (end : Copy → Store) (c : Copy) (a : ℕ) (l : List (ℤ × ℤ)) (r : Option ℤ) → end c a ≡ Array (listed l) → Seen end a l r
    → KnownBy end c a r
known_by end c a l r is seen i =
    ⊎_elim (λ (z : listed l i ≡ pos 0). inl (ap (λ (v : Value). array v i) is ∙ z)) (λ (k : Known end a r i). inr k)
    (known end a l r r seen (λ (j : ℤ) (u : IsUpTo r j). u) i)

-- what is known of each index after a copy's cells is known after more cells
known_later : (end : Copy → Store) (c : Copy) (a : ℕ) (r new : Option ℤ) → KnownBy end c a r → Later r new → KnownBy end c a new
known_later end c a r new by later i =
    ⊎_elim (λ (z : content (end c) (Element a i) ≡ pos 0). inl z)
    (λ (h : Known end a r i). inr (⊎_elim (λ (k : KeepsAt end (Element a i)). inl k) (λ (u : IsUpTo r i). inr (later i u)) h)) (by i)

-- after the cells of all four, each index is one at which Keeps holds, or isn't below the least
pub least_of_four : (end : Copy → Store) (a : ℕ) (ro ra rb rm : Option ℤ)
    → KnownBy end O a ro → KnownBy end A a ra → KnownBy end B a rb → KnownBy end M a rm
    → Later ro ra → Later ra rb → Later rb rm
    → (i : ℤ) → Known end a rm i
least_of_four end a ro ra rb rm ko ka kb km first second third i =
    let from_a : Later ra rm = λ (j : ℤ) (u : IsUpTo ra j). third j (second j u) in
    let from_o : Later ro rm = λ (j : ℤ) (u : IsUpTo ro j). from_a j (first j u) in
    let at = λ (c : Copy). content (end c) (Element a i) in
    one_of_four (known_later end O a ro rm ko from_o i) (known_later end A a ra rm ka from_a i) (known_later end B a rb rm kb third i) (km i)
    (λ (zo : at O ≡ pos 0) (za : at A ≡ pos 0) (zb : at B ≡ pos 0) (zm : at M ≡ pos 0).
    inl (all_zero (at O) (at A) (at B) (at M) zo za zb zm))

-- one more cell
pub seen_more : (end : Copy → Store) (a : ℕ) (l : List (ℤ × ℤ)) (p : ℕ) (r new : Option ℤ)
    → ((q : ℕ) → q < p → Known end a r (index_at l q)) → Later r new → Known end a new (index_at l p)
    → (q : ℕ) → q < p + 1 → Known end a new (index_at l q)
seen_more end a l p r new before later here q lt =
    ⊎_elim (λ (same : q ≡ p). subst (λ (k : ℕ). Known end a new (index_at l k)) (sym same) here)
    (λ (other : q ≡ p → ⊥).
    ⊎_elim (λ (k : KeepsAt end (Element a (index_at l q))). inl k) (λ (u : IsUpTo r (index_at l q)). inr (later (index_at l q) u))
    (before q (omega arith)))
    (cases_eq q p)
