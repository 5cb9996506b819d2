-- Lists without repeats, and what dropping repeats leaves of them.
use Rattle.sm_template.proofs.Imports.{◌≡◌, ℕ, zero, suc, Bool, true, false, cond, ◌||◌, if◌then◌else◌, List, [], ◌∷◌, ◌++◌, map, take, refl, sym, ap, ◌∙◌, fold, filter, list_any, flat_map, append-nil, append_assoc, with_new, distinct}

module _ {T : Type 0} (same : T → T → Bool) where
  -- a thing is the same as none of a list
  abbrev pub IsNew : List T → T → Type 0
  IsNew [] x = Unit {0}
  IsNew (y ∷ ys) x = (same x y ≡ false) × IsNew ys x

  -- each of some things is the same as none of a list
  abbrev pub AreNew : List T → List T → Type 0
  AreNew seen [] = Unit {0}
  AreNew seen (x ∷ xs) = IsNew seen x × AreNew seen xs

  -- no later thing is the same as an earlier one
  abbrev pub HasNoRepeats : List T → Type 0
  HasNoRepeats [] = Unit {0}
  HasNoRepeats (x ∷ xs) = AreNew (x ∷ []) xs × HasNoRepeats xs

  -- what is new is in no list
  pub any_of_new : (x : T) (seen : List T) → IsNew seen x → list_any (same x) seen ≡ false
  any_of_new x [] h = refl
  any_of_new x (y ∷ ys) h = (λ k. h.0 k || any_of_new x ys h.1 k)

  pub new_of_any : (x : T) (seen : List T) → list_any (same x) seen ≡ false → IsNew seen x
  new_of_any x [] h = tt
  new_of_any x (y ∷ ys) h = by (same x y) refl (new_of_any x ys) h
    where
      by : (b : Bool) → same x y ≡ b → (list_any (same x) ys ≡ false → IsNew ys x) → (b || list_any (same x) ys) ≡ false →
          IsNew (y ∷ ys) x
      by true e later h = absurd cc
      by false e later h = (e, later h)

  -- parts of lists
  pub new_append : (x : T) (ys zs : List T) → IsNew ys x → IsNew zs x → IsNew (ys ++ zs) x
  new_append x [] zs h g = g
  new_append x (y ∷ ys) zs h g = (h.0, new_append x ys zs h.1 g)

  pub all_append : (seen xs ys : List T) → AreNew seen xs → AreNew seen ys → AreNew seen (xs ++ ys)
  all_append seen [] ys h g = g
  all_append seen (x ∷ xs) ys h g = (h.0, all_append seen xs ys h.1 g)

  pub all_nothing : (xs : List T) → AreNew [] xs
  all_nothing [] = tt
  all_nothing (x ∷ xs) = (tt, all_nothing xs)

  pub all_more : (y : T) (seen xs : List T) → AreNew (y ∷ []) xs → AreNew seen xs → AreNew (y ∷ seen) xs
  all_more y seen [] h g = tt
  all_more y seen (x ∷ xs) h g = ((h.0.0, g.0), all_more y seen xs h.1 g.1)

  pub all_behind : (seen more xs : List T) → AreNew seen xs → AreNew more xs → AreNew (seen ++ more) xs
  all_behind seen more [] h g = tt
  all_behind seen more (x ∷ xs) h g = (new_append x seen more h.0 g.0, all_behind seen more xs h.1 g.1)

  all_of_first : (y : T) (seen xs : List T) → AreNew (y ∷ seen) xs → AreNew (y ∷ []) xs
  all_of_first y seen [] h = tt
  all_of_first y seen (x ∷ xs) h = ((h.0.0, tt), all_of_first y seen xs h.1)

  all_of_rest : (y : T) (seen xs : List T) → AreNew (y ∷ seen) xs → AreNew seen xs
  all_of_rest y seen [] h = tt
  all_of_rest y seen (x ∷ xs) h = (h.0.1, all_of_rest y seen xs h.1)

  pub no_repeats_append : (xs ys : List T) → HasNoRepeats xs → HasNoRepeats ys → AreNew xs ys → HasNoRepeats (xs ++ ys)
  no_repeats_append [] ys h g new = g
  no_repeats_append (x ∷ xs) ys h g new =
      (all_append (x ∷ []) xs ys h.0 (all_of_first x xs ys new), no_repeats_append xs ys h.1 g (all_of_rest x xs ys new))

  -- dropping repeats leaves a list without them
  pub fold_new : (seen xs : List T) → AreNew seen xs → HasNoRepeats xs → fold (with_new same) seen xs ≡ seen ++ xs
  fold_new seen [] new h = sym (append-nil seen)
  fold_new seen (x ∷ xs) new h =
      ap (λ (b : Bool). fold (with_new same) (if b then seen else seen ++ x ∷ []) xs) (any_of_new x seen new.0)
      ∙ fold_new (seen ++ x ∷ []) xs (all_behind seen (x ∷ []) xs new.1 h.0) h.1
      ∙ append_assoc seen (x ∷ []) xs

  pub distinct_same : (xs : List T) → HasNoRepeats xs → distinct same xs ≡ xs
  distinct_same xs h = fold_new [] xs (all_nothing xs) h

  -- what dropping repeats leaves has no repeats
  no_repeats_fold : (seen xs : List T) → HasNoRepeats seen → HasNoRepeats (fold (with_new same) seen xs)
  no_repeats_fold seen [] h = h
  no_repeats_fold seen (x ∷ xs) h = no_repeats_fold (with_new same seen x) xs (by (list_any (same x) seen) refl)
    where
      by : (b : Bool) → list_any (same x) seen ≡ b → HasNoRepeats (if b then seen else seen ++ x ∷ [])
      by true e = h
      by false e = no_repeats_append seen (x ∷ []) h (tt, tt) (new_of_any x seen e, tt)

  pub no_repeats_distinct : (xs : List T) → HasNoRepeats (distinct same xs)
  no_repeats_distinct xs = no_repeats_fold [] xs tt

  -- the front of a list is new, or without repeats, where the whole list is so
  all_take : (seen xs : List T) (n : ℕ) → AreNew seen xs → AreNew seen (take n xs)
  all_take seen xs zero h = tt
  all_take seen [] (suc n) h = tt
  all_take seen (x ∷ xs) (suc n) h = (h.0, all_take seen xs n h.1)

  pub no_repeats_take : (xs : List T) (n : ℕ) → HasNoRepeats xs → HasNoRepeats (take n xs)
  no_repeats_take xs zero h = tt
  no_repeats_take [] (suc n) h = tt
  no_repeats_take (x ∷ xs) (suc n) h = (all_take (x ∷ []) xs n h.0, no_repeats_take xs n h.1)

-- whether a list has a repeat
abbrev pub is_new : {T : Type 0} → (T → T → Bool) → T → List T → Bool
is_new same y [] = true
is_new same y (x ∷ xs) = if same x y then false else is_new same y xs

abbrev pub has_no_repeats : {T : Type 0} → (T → T → Bool) → List T → Bool
has_no_repeats same [] = true
has_no_repeats same (x ∷ xs) = if is_new same x xs then has_no_repeats same xs else false

pub new_by_test : {T : Type 0} (same : T → T → Bool) (y : T) (xs : List T) → is_new same y xs ≡ true → AreNew same (y ∷ []) xs
new_by_test same y [] h = tt
new_by_test {T} same y (x ∷ xs) h = by (same x y) refl (new_by_test same y xs) h
  where
    by : (b : Bool) → same x y ≡ b → (is_new same y xs ≡ true → AreNew same (y ∷ []) xs) →
        (if b then false else is_new same y xs) ≡ true → AreNew same (y ∷ []) (x ∷ xs)
    by true e later h = absurd cc
    by false e later h = ((e, tt), later h)

pub no_repeats_by_test : {T : Type 0} (same : T → T → Bool) (xs : List T) → has_no_repeats same xs ≡ true → HasNoRepeats same xs
no_repeats_by_test same [] h = tt
no_repeats_by_test {T} same (x ∷ xs) h = by (is_new same x xs) refl (no_repeats_by_test same xs) h
  where
    by : (b : Bool) → is_new same x xs ≡ b → (has_no_repeats same xs ≡ true → HasNoRepeats same xs) →
        (if b then has_no_repeats same xs else false) ≡ true → HasNoRepeats same (x ∷ xs)
    by true e later h = (new_by_test same x xs e, later h)
    by false e later h = absurd cc

-- what is made of things that are not the same is not the same
module _ {T U : Type 0} (same : T → T → Bool) (like : U → U → Bool) (f : T → U)
    (keeps : (x y : T) → same x y ≡ false → like (f x) (f y) ≡ false) where
  new_map : (x : T) (seen : List T) → IsNew same seen x → IsNew like (map f seen) (f x)
  new_map x [] h = tt
  new_map x (y ∷ ys) h = (keeps x y h.0, new_map x ys h.1)

  pub all_new_map : (seen xs : List T) → AreNew same seen xs → AreNew like (map f seen) (map f xs)
  all_new_map seen [] h = tt
  all_new_map seen (x ∷ xs) h = (new_map x seen h.0, all_new_map seen xs h.1)

  pub no_repeats_map : (xs : List T) → HasNoRepeats same xs → HasNoRepeats like (map f xs)
  no_repeats_map [] h = tt
  no_repeats_map (x ∷ xs) h = (all_new_map (x ∷ []) xs h.0, no_repeats_map xs h.1)

-- lists of things that are not the same have none the same
module _ {T U : Type 0} (same : T → T → Bool) (like : U → U → Bool) (f : T → List U)
    (apart : (x y : T) → same x y ≡ false → AreNew like (f y) (f x)) where
  pub lists_apart : (y : T) (xs : List T) → AreNew same (y ∷ []) xs → AreNew like (f y) (flat_map f xs)
  lists_apart y [] h = tt
  lists_apart y (x ∷ xs) h = all_append like (f y) (f x) (flat_map f xs) (apart x y h.0.0) (lists_apart y xs h.1)

  pub no_repeats_lists : ((x : T) → HasNoRepeats like (f x)) → (xs : List T) → HasNoRepeats same xs → HasNoRepeats like (flat_map f xs)
  no_repeats_lists each [] h = tt
  no_repeats_lists each (x ∷ xs) h =
      no_repeats_append like (f x) (flat_map f xs) (each x) (no_repeats_lists each xs h.1) (lists_apart x xs h.0)

-- the other way round: things of which something without repeats is made
module _ {T U : Type 0} (like : U → U → Bool) (f : T → U) where
  all_new_unmap : (seen xs : List T) → AreNew like (map f seen) (map f xs) → AreNew (λ (x y : T). like (f x) (f y)) seen xs
  all_new_unmap seen [] h = tt
  all_new_unmap seen (x ∷ xs) h = (one seen h.0, all_new_unmap seen xs h.1)
    where
      one : (ys : List T) → IsNew like (map f ys) (f x) → IsNew (λ (y z : T). like (f y) (f z)) ys x
      one [] g = tt
      one (y ∷ ys) g = (g.0, one ys g.1)

  pub no_repeats_unmap : (xs : List T) → HasNoRepeats like (map f xs) → HasNoRepeats (λ (x y : T). like (f x) (f y)) xs
  no_repeats_unmap [] h = tt
  no_repeats_unmap (x ∷ xs) h = (all_new_unmap (x ∷ []) xs h.0, no_repeats_unmap xs h.1)

-- some of a list
module _ {T : Type 0} (same : T → T → Bool) (test : T → Bool) where
  all_new_filter : (seen xs : List T) → AreNew same seen xs → AreNew same seen (filter test xs)
  all_new_filter seen [] h = tt
  all_new_filter seen (x ∷ xs) h = by (test x) (all_new_filter seen xs h.1)
    where
      by : (b : Bool) → AreNew same seen (filter test xs) → AreNew same seen (cond b (x ∷ filter test xs) (filter test xs))
      by true later = (h.0, later)
      by false later = later

  pub no_repeats_filter : (xs : List T) → HasNoRepeats same xs → HasNoRepeats same (filter test xs)
  no_repeats_filter [] h = tt
  no_repeats_filter (x ∷ xs) h = by (test x) (no_repeats_filter xs h.1)
    where
      by : (b : Bool) → HasNoRepeats same (filter test xs) → HasNoRepeats same (cond b (x ∷ filter test xs) (filter test xs))
      by true later = (all_new_filter (x ∷ []) xs h.0, later)
      by false later = later

-- two lists of which no two things are the same
module _ {T U V : Type 0} (like : V → V → Bool) (f : T → V) (g : U → V) (apart : (x : T) (y : U) → like (f x) (g y) ≡ false) where
  new_apart : (x : T) (ys : List U) → IsNew like (map g ys) (f x)
  new_apart x [] = tt
  new_apart x (y ∷ ys) = (apart x y, new_apart x ys)

  pub all_apart : (ys : List U) (xs : List T) → AreNew like (map g ys) (map f xs)
  all_apart ys [] = tt
  all_apart ys (x ∷ xs) = (new_apart x ys, all_apart ys xs)
