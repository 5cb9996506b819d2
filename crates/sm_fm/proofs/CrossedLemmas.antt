-- Pairs of places that are left, by the two places where the first of them stands.
use Rattle.sm_fm.proofs.Imports.{◌≡◌, ◌≢◌, ◌<◌, ◌≤◌, ◌+◌, ◌↔◌, ◌==◌, ℕ, true, List, [], ◌∷◌, length, get_or, drop, refl, sym, ap, ◌∙◌, ⊎_elim, arith, cases_eq, Decides-eqb, drop_more, drop_all, crossed_from, crossed_places}

-- where the first places are all done, no pair is left
none_left : (fs gs : List ℕ) (i j : ℕ) → length fs ≤ i → crossed_from (drop i fs) (drop j gs) gs ≡ []
none_left fs gs i j le = ap (λ (l : List ℕ). crossed_from l (drop j gs) gs) (drop_all i fs le)

-- else one is left
some_left : (fs gs : List ℕ) (i j : ℕ) → i < length fs → j < length gs → crossed_from (drop i fs) (drop j gs) gs ≢ []
some_left fs gs i j lt there none =
    let e = ap (λ (l : List ℕ). crossed_from l (drop j gs) gs) (drop_more fs i 0 lt)
    ∙ ap (λ (l : List ℕ). crossed_from (get_or fs i 0 ∷ drop (i + 1) fs) l gs) (drop_more gs j 0 there) in
    let wrong = sym e ∙ none in
    absurd cc

-- so the first of the two tells
pub empty_told : (fs gs : List ℕ) (i j n : ℕ) (left : List (ℕ × ℕ)) → n ≡ length fs → i ≤ length fs → (i < length fs → j < length gs) →
    crossed_from (drop i fs) (drop j gs) gs ≡ left → ((i == n) ≡ true) ↔ (left ≡ [])
empty_told fs gs i j n left len le there is = (
  λ (e : (i == n) ≡ true). let same = (Decides-eqb i n).0 e in sym is ∙ none_left fs gs i j (omega arith),
  λ (none : left ≡ []).
      ⊎_elim
      (λ (same : i ≡ n). (Decides-eqb i n).1 same)
      (λ (other : i ≢ n). absurd (some_left fs gs i j (omega arith) (there (omega arith)) (is ∙ none)))
      (cases_eq i n),
)

-- with no places there are no pairs
crossed-nil : (fs : List ℕ) → crossed_places fs [] ≡ []
crossed-nil [] = refl
crossed-nil (f ∷ fs) = crossed-nil fs

-- where there are no second places, the first are done at once
pub starts_done : (fs gs : List ℕ) (i : ℕ) → gs ≡ [] → i ≡ length fs → crossed_from (drop i fs) gs gs ≡ crossed_places fs gs
starts_done fs gs i none same =
    ap (λ (l : List ℕ). crossed_from l gs gs) (drop_all i fs (omega arith)) ∙ sym (crossed-nil fs) ∙ ap (crossed_places fs) (sym none)

-- else all pairs are left
pub starts_first : (fs gs : List ℕ) (i : ℕ) → i ≡ 0 → crossed_from (drop i fs) gs gs ≡ crossed_places fs gs
starts_first fs gs i same = ap (λ (k : ℕ). crossed_from (drop k fs) gs gs) same
