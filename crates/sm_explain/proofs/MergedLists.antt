-- Two rising lists of indices merged, index by index.
use Rattle.sm_explain.proofs.Imports.{◌≡◌, ◌≢◌, ◌⊎◌, ◌+◌, ◌<◌, ◌≤◌, ℕ, zero, suc, ℤ, Bool, true, false, if◌then◌else◌, Option, Some, None, List, [], ◌∷◌, ◌++◌, length, drop, refl, sym, ap, subst, ◌∙◌, inl, inr, ⊎_elim, arith, drop_of_length-le, ◌<ℤ◌, ◌≤ℤ◌, int_lt, slice_get, int_eq, Decides-int_eq, not_from_Decides, ints, IsOf, Rise, first, lesser, past, AreMerging}

-- an index behind all
of_more : (xs : List ℤ) (i k : ℤ) → IsOf (xs ++ i ∷ []) k → IsOf xs k ⊎ (k ≡ i)
of_more [] i k h = ⊎_elim (λ (e : k ≡ i). inr e) (λ (none : ⊥). absurd none) h
of_more (x ∷ xs) i k h =
    ⊎_elim (λ (e : k ≡ x). inl (inl e))
    (λ (r : IsOf (xs ++ i ∷ []) k). ⊎_elim (λ (o : IsOf xs k). inl (inr o)) (λ (e : k ≡ i). inr e) (of_more xs i k r)) h

of_before : (xs : List ℤ) (i k : ℤ) → IsOf xs k → IsOf (xs ++ i ∷ []) k
of_before [] i k h = absurd h
of_before (x ∷ xs) i k h = ⊎_elim (λ (e : k ≡ x). inl e) (λ (r : IsOf xs k). inr (of_before xs i k r)) h

of_last : (xs : List ℤ) (i : ℤ) → IsOf (xs ++ i ∷ []) i
of_last [] i = inl refl
of_last (x ∷ xs) i = inr (of_last xs i)

rise_more : (xs : List ℤ) (i : ℤ) → Rise xs → ((k : ℤ) → IsOf xs k → k <ℤ i) → Rise (xs ++ i ∷ [])
rise_more [] i r below = (λ (j : ℤ) (none : ⊥). absurd none, tt)
rise_more (x ∷ xs) i r below = (
  λ (j : ℤ) (h : IsOf (xs ++ i ∷ []) j).
      ⊎_elim (λ (o : IsOf xs j). r.0 j o) (λ (e : j ≡ i). subst (λ (z : ℤ). x <ℤ z) (sym e) (below x (inl refl))) (of_more xs i j h),
  rise_more xs i r.1 (λ (k : ℤ) (o : IsOf xs k). below k (inr o)),
)

-- the first index of a rising list is the least
pub first_least : (u : ℤ) (us : List ℤ) → Rise (u ∷ us) → (j : ℤ) → IsOf (u ∷ us) j → u ≤ℤ j
first_least u us r j h =
    ⊎_elim (λ (e : j ≡ u). omega (arith, ints)) (λ (o : IsOf us j). let lt : u <ℤ j = r.0 j o in omega (arith, ints)) h

-- an index of one of two lists that isn't above any
pub record IsLeast (us vs : List ℤ) (i : ℤ) : Type 0 where
  pub one : IsOf us i ⊎ IsOf vs i
  pub left : (j : ℤ) → IsOf us j → i ≤ℤ j
  pub right : (j : ℤ) → IsOf vs j → i ≤ℤ j

least_left : (u : ℤ) (us vs : List ℤ) → Rise (u ∷ us) → ((j : ℤ) → IsOf vs j → u ≤ℤ j) → IsLeast (u ∷ us) vs u
least_left u us vs r low = record { one = inl (inl refl); left = first_least u us r; right = low }

least_right : (v : ℤ) (us vs : List ℤ) → Rise (v ∷ vs) → ((j : ℤ) → IsOf us j → v ≤ℤ j) → IsLeast us (v ∷ vs) v
least_right v us vs r low = record { one = inr (inl refl); left = low; right = first_least v vs r }

-- not above the first is not above any
up_from : (i u : ℤ) (us : List ℤ) → i ≤ℤ u → Rise (u ∷ us) → (j : ℤ) → IsOf (u ∷ us) j → i ≤ℤ j
up_from i u us le r j o = let up : u ≤ℤ j = first_least u us r j o in omega (arith, ints)

below_is : (v u : ℤ) → int_lt v u ≡ true → v ≤ℤ u
below_is v u e = grind (arith, ints)

not_below : (v u : ℤ) → int_lt v u ≡ false → u ≤ℤ v
not_below v u e = grind (arith, ints)

is_least : (us vs : List ℤ) (i : ℤ) → Rise us → Rise vs → lesser (first us) (first vs) ≡ Some i → IsLeast us vs i
is_least [] [] i ru rv e = let no : None ≡ Some i = e in cc
is_least [] (v ∷ vs) i ru rv e =
    let same : v ≡ i = cc in
    subst (λ (z : ℤ). IsLeast [] (v ∷ vs) z) same (least_right v [] vs rv (λ (j : ℤ) (none : ⊥). absurd none))
is_least (u ∷ us) [] i ru rv e =
    let same : u ≡ i = cc in
    subst (λ (z : ℤ). IsLeast (u ∷ us) [] z) same (least_left u us [] ru (λ (j : ℤ) (none : ⊥). absurd none))
is_least (u ∷ us) (v ∷ vs) i ru rv e = by (int_lt v u) (below_is v u) (not_below v u) e
  where
    by : (b : Bool) → (b ≡ true → v ≤ℤ u) → (b ≡ false → u ≤ℤ v) → (if b then Some v else Some u) ≡ Some i
        → IsLeast (u ∷ us) (v ∷ vs) i
    by true low high e =
        let same : v ≡ i = cc in
        subst (λ (z : ℤ). IsLeast (u ∷ us) (v ∷ vs) z) same (least_right v (u ∷ us) vs rv (up_from v u us (low refl) ru))
    by false low high e =
        let same : u ≡ i = cc in
        subst (λ (z : ℤ). IsLeast (u ∷ us) (v ∷ vs) z) same (least_left u us (v ∷ vs) ru (up_from u v vs (high refl) rv))

-- what is behind an index
pub record IsPast (i : ℤ) (us rest : List ℤ) : Type 0 where
  pub rise : Rise rest
  pub above : (j : ℤ) → IsOf rest j → i <ℤ j
  pub among : (j : ℤ) → IsOf rest j → IsOf us j
  pub others : (j : ℤ) → IsOf us j → (j ≡ i) ⊎ IsOf rest j

under : (i u j : ℤ) → i ≤ℤ u → u ≢ i → u ≤ℤ j → i <ℤ j
under i u j low apart up = grind (arith, ints)

is_past : (i : ℤ) (us : List ℤ) → Rise us → ((j : ℤ) → IsOf us j → i ≤ℤ j) → IsPast i us (past i us)
is_past i [] r low = record {
  rise = tt;
  above = λ (j : ℤ) (none : ⊥). absurd none;
  among = λ (j : ℤ) (none : ⊥). absurd none;
  others = λ (j : ℤ) (none : ⊥). absurd none;
}
is_past i (u ∷ us) r low = by (int_eq u i) (Decides-int_eq u i).0 (not_from_Decides (int_eq u i) (Decides-int_eq u i))
  where
    by : (b : Bool) → (b ≡ true → u ≡ i) → (b ≡ false → u ≢ i) → IsPast i (u ∷ us) (if b then us else u ∷ us)
    by true same apart = record {
      rise = r.1;
      above = λ (j : ℤ) (o : IsOf us j). subst (λ (z : ℤ). z <ℤ j) (same refl) (r.0 j o);
      among = λ (j : ℤ) (o : IsOf us j). inr o;
      others = λ (j : ℤ) (h : IsOf (u ∷ us) j). ⊎_elim (λ (e : j ≡ u). inl (e ∙ same refl)) (λ (o : IsOf us j). inr o) h;
    }
    by false same apart = record {
      rise = r;
      above = λ (j : ℤ) (h : IsOf (u ∷ us) j). under i u j (low u (inl refl)) (apart refl) (first_least u us r j h);
      among = λ (j : ℤ) (h : IsOf (u ∷ us) j). h;
      others = λ (j : ℤ) (h : IsOf (u ∷ us) j). inr h;
    }

-- what is left stays above what is merged
above_more : (us rest merged : List ℤ) (i : ℤ) → ((k j : ℤ) → IsOf merged k → IsOf us j → k <ℤ j) → IsPast i us rest
    → (k j : ℤ) → IsOf (merged ++ i ∷ []) k → IsOf rest j → k <ℤ j
above_more us rest merged i above p k j o h =
    ⊎_elim (λ (old : IsOf merged k). above k j old (p.among j h))
    (λ (e : k ≡ i). subst (λ (z : ℤ). z <ℤ j) (sym e) (p.above j h)) (of_more merged i k o)

-- nothing is lost where an index is merged
kept_more : (whole us rest merged : List ℤ) (i : ℤ) → ((k : ℤ) → IsOf whole k → IsOf merged k ⊎ IsOf us k) → IsPast i us rest
    → (k : ℤ) → IsOf whole k → IsOf (merged ++ i ∷ []) k ⊎ IsOf rest k
kept_more whole us rest merged i kept p k h =
    ⊎_elim (λ (old : IsOf merged k). inl (of_before merged i k old))
    (λ (o : IsOf us k).
    ⊎_elim (λ (e : k ≡ i). inl (subst (λ (z : ℤ). IsOf (merged ++ i ∷ []) z) (sym e) (of_last merged i))) (λ (r : IsOf rest k). inr r)
    (p.others k o)) (kept k h)

-- one index more
more_merged : (left right us vs merged : List ℤ) (i : ℤ) → AreMerging left right us vs merged
    → lesser (first us) (first vs) ≡ Some i → AreMerging left right (past i us) (past i vs) (merged ++ i ∷ [])
more_merged left right us vs merged i m e =
    let low = is_least us vs i m.left_rise m.right_rise e in
    let past_left = is_past i us m.left_rise low.left in
    let past_right = is_past i vs m.right_rise low.right in
    record {
      rise = rise_more merged i m.rise
          (λ (k : ℤ) (o : IsOf merged k).
          ⊎_elim (λ (h : IsOf us i). m.left_above k i o h) (λ (h : IsOf vs i). m.right_above k i o h) low.one);
      left_rise = past_left.rise;
      right_rise = past_right.rise;
      left_above = above_more us (past i us) merged i m.left_above past_left;
      right_above = above_more vs (past i vs) merged i m.right_above past_right;
      left_kept = kept_more left us (past i us) merged i m.left_kept past_left;
      right_kept = kept_more right vs (past i vs) merged i m.right_kept past_right;
    }

-- less is left
past_first : (i u : ℤ) (us : List ℤ) → u ≡ i → past i (u ∷ us) ≡ us
past_first i u us same = ap (λ (b : Bool). if b then us else u ∷ us) ((Decides-int_eq u i).1 same)

past_short : (i : ℤ) (us : List ℤ) → length (past i us) ≤ length us
past_short i [] = omega arith
past_short i (u ∷ us) = by (int_eq u i)
  where
    by : (b : Bool) → length (if b then us else u ∷ us) ≤ length (u ∷ us)
    by true = omega arith
    by false = omega arith

less_left : (us vs : List ℤ) (i : ℤ) → lesser (first us) (first vs) ≡ Some i
    → length (past i us) + length (past i vs) < length us + length vs
less_left [] [] i e = let no : None ≡ Some i = e in cc
less_left [] (v ∷ vs) i e = let same : v ≡ i = cc in omega (arith, ap length (past_first i v vs same))
less_left (u ∷ us) [] i e = let same : u ≡ i = cc in omega (arith, ap length (past_first i u us same))
less_left (u ∷ us) (v ∷ vs) i e = by (int_lt v u) e
  where
    by : (b : Bool) → (if b then Some v else Some u) ≡ Some i
        → length (past i (u ∷ us)) + length (past i (v ∷ vs)) < length (u ∷ us) + length (v ∷ vs)
    by true e = let same : v ≡ i = cc in omega (arith, ap length (past_first i v vs same), past_short i (u ∷ us))
    by false e = let same : u ≡ i = cc in omega (arith, ap length (past_first i u us same), past_short i (v ∷ vs))

-- nothing is left
none_left : (us vs : List ℤ) → lesser (first us) (first vs) ≡ None → (us ≡ []) × (vs ≡ [])
none_left [] [] e = (refl, refl)
none_left [] (v ∷ vs) e = let no : Some v ≡ None = e in cc
none_left (u ∷ us) [] e = let no : Some u ≡ None = e in cc
none_left (u ∷ us) (v ∷ vs) e = by (int_lt v u) e
  where
    by : (b : Bool) → (if b then Some v else Some u) ≡ None → (u ∷ us ≡ []) × (v ∷ vs ≡ [])
    by true e = let no : Some v ≡ None = e in cc
    by false e = let no : Some u ≡ None = e in cc

all_kept : (whole us merged : List ℤ) → us ≡ [] → ((i : ℤ) → IsOf whole i → IsOf merged i ⊎ IsOf us i) → (i : ℤ) → IsOf whole i
    → IsOf merged i
all_kept whole us merged none kept i h =
    ⊎_elim (λ (o : IsOf merged i). o) (λ (r : IsOf us i). absurd (subst (λ (xs : List ℤ). IsOf xs i) none r)) (kept i h)

left_merged : (left right us vs merged : List ℤ) → AreMerging left right us vs merged → lesser (first us) (first vs) ≡ None → (i : ℤ)
    → IsOf left i → IsOf merged i
left_merged left right us vs merged m e = all_kept left us merged (none_left us vs e).0 m.left_kept

right_merged : (left right us vs merged : List ℤ) → AreMerging left right us vs merged → lesser (first us) (first vs) ≡ None → (i : ℤ)
    → IsOf right i → IsOf merged i
right_merged left right us vs merged m e = all_kept right vs merged (none_left us vs e).1 m.right_kept

-- the index at a place is the first behind those before it
first_at : (xs : List ℤ) (n : ℕ) → slice_get xs n ≡ first (drop n xs)
first_at [] zero = refl
first_at [] (suc n) = refl
first_at (x ∷ xs) zero = refl
first_at (x ∷ xs) (suc n) = first_at xs n

-- a turn of the loop: the lesser of the two indices that come next, and the places behind it
abbrev pub IsNext : List ℤ → List ℤ → ℕ → ℕ → Option ℤ → Type 0
IsNext left right p q next = next ≡ lesser (slice_get left p) (slice_get right q)

at_rest : (left right : List ℤ) (p q : ℕ) (next : Option ℤ) → IsNext left right p q next
    → lesser (first (drop p left)) (first (drop q right)) ≡ next
at_rest left right p q next is = rw (sym (first_at left p), sym (first_at right q)) (sym is)

pub turn : (left right : List ℤ) (p q p_new q_new : ℕ) (merged more : List ℤ) (i : ℤ)
    → AreMerging left right (drop p left) (drop q right) merged → IsNext left right p q (Some i)
    → more ≡ merged ++ i ∷ [] → drop p_new left ≡ past i (drop p left) → drop q_new right ≡ past i (drop q right)
    → AreMerging left right (drop p_new left) (drop q_new right) more
turn left right p q p_new q_new merged more i m is pushed behind_p behind_q =
    rw (pushed, behind_p, behind_q)
    (more_merged left right (drop p left) (drop q right) merged i m (at_rest left right p q (Some i) is))

pub turn_smaller : (left right : List ℤ) (p q p_new q_new : ℕ) (i : ℤ) → IsNext left right p q (Some i)
    → drop p_new left ≡ past i (drop p left) → drop q_new right ≡ past i (drop q right)
    → length (drop p_new left) + length (drop q_new right) < length (drop p left) + length (drop q right)
turn_smaller left right p q p_new q_new i is behind_p behind_q =
    rw (behind_p, behind_q) (less_left (drop p left) (drop q right) i (at_rest left right p q (Some i) is))

pub all_left : (left right : List ℤ) (p q : ℕ) (merged : List ℤ) → AreMerging left right (drop p left) (drop q right) merged
    → IsNext left right p q None → (i : ℤ) → IsOf left i → IsOf merged i
all_left left right p q merged m is =
    left_merged left right (drop p left) (drop q right) merged m (at_rest left right p q None is)

pub all_right : (left right : List ℤ) (p q : ℕ) (merged : List ℤ) → AreMerging left right (drop p left) (drop q right) merged
    → IsNext left right p q None → (i : ℤ) → IsOf right i → IsOf merged i
all_right left right p q merged m is =
    right_merged left right (drop p left) (drop q right) merged m (at_rest left right p q None is)

pub past_end : (i : ℤ) (xs : List ℤ) (n : ℕ) → length xs ≤ n → drop n xs ≡ past i (drop n xs)
past_end i xs n past_all = rw (drop_of_length-le xs past_all) refl
