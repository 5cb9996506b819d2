-- The terms of a summary's inputs, and the store with the summaries of some names.
use Rattle.sm_plan.proofs.Imports.{◌≡◌, ℕ, zero, suc, ◌+◌, ◌<◌, ◌==◌, ◌||◌, Bool, true, false, if◌then◌else◌, Some, List, [], ◌∷◌, ◌++◌, length, map, take, get_or, slice_get, refl, sym, ap, ◌∙◌, arith, eqb-true, and_from, slice_get-get_or, get_or_from_slice_get, slice_get_read, take_more, map-append, fun_ext, Code, Name, is_in, Sorts, assigns, inputs, Tree, Fun, Given, arguments_fit, SymbolicStore, with_term, sort_named, IsDeclaredIn, tree_or_start, store_in, SymStore, arguments_in, AreBefore, AreNamesDeclared, TermId, sort_got, name_stored, part_before, terms_named, AreNamesBelow, IsStoreReady, IsStoreFull, present, summarized}
use Rattle.std.proofs.lemmas.Bool.{eq-eqb}
use Rattle.std.proofs.lemmas.List.Folds.{list_any-append}
use Rattle.sm_plan.proofs.SortedTerms.{of_declared}

-- names by number
abbrev pub numbers : List Name → List ℕ
numbers names = map (λ (x : Name). x.0) names

-- names that are all declared
pub all_declared : (sorts : Sorts) (names : List Name) → ((x : ℕ) → is_in (numbers names) x ≡ true → IsDeclaredIn sorts x) →
    AreNamesDeclared sorts names
all_declared sorts [] h = tt
all_declared sorts (x ∷ xs) h = (
  h x.0 (here (x.0 == x.0) (is_in (numbers xs) x.0) (eq-eqb x.0 x.0 refl)),
  all_declared sorts xs (λ y e. h y (there (y == x.0) (is_in (numbers xs) y) e)),
)
  where
    here : (p q : Bool) → p ≡ true → (p || q) ≡ true
    here true q e = refl
    here false q e = absurd cc

    there : (p q : Bool) → q ≡ true → (p || q) ≡ true
    there true q e = refl
    there false q e = e

pub names_below : (sorts : Sorts) (s : SymStore) → IsStoreFull sorts s → (names : List Name) → AreNamesDeclared sorts names →
    AreNamesBelow (length s.list.items) names
names_below sorts s full [] all = tt
names_below sorts s full (x ∷ xs) all = (full x.0 all.0, names_below sorts s full xs all.1)

pub name_at_below : (n : ℕ) (names : List Name) (i : ℕ) (d : Name) → AreNamesBelow n names → i < length names → (get_or names i d).0 < n
name_at_below n [] i d all h = absurd (omega arith)
name_at_below n (y ∷ ys) zero d all h = all.0
name_at_below n (y ∷ ys) (suc i) d all h = name_at_below n ys i d all.1 (omega arith)

-- the term of one name more
pub terms_more : (l : List TermId) (names : List Name) (i : ℕ) (d : Name) (r : TermId) → i < length names →
    (get_or names i d).0 < length l → r ≡ get_or l (get_or names i d).0 r
    → terms_named l (take i names) ++ r ∷ [] ≡ terms_named l (take (i + 1) names)
terms_more l names i d r h below e =
    let x = (get_or names i d).0 in
    let same : r ≡ get_or l x (record { 0 = 0 }) =
    sym (get_or_from_slice_get l x r (record { 0 = 0 }) (slice_get_read l (length l) x r refl below e)) in
    ap (λ (t : TermId). terms_named l (take i names) ++ t ∷ []) same
    ∙ sym (ap (terms_named l) (take_more names i d h)
    ∙ map-append (λ (y : Name). get_or l y.0 (record { 0 = 0 })) (take i names) (get_or names i d ∷ []))

-- a name's term in a list
got_named : (l : List TermId) (x : ℕ) → x < length l → slice_get l x ≡ Some (get_or l x (record { 0 = 0 }))
got_named l x h = slice_get-get_or l x (record { 0 = 0 }) h

module _ (sorts : Sorts) (trees : List Tree) (s : SymStore) (ready : IsStoreReady sorts trees s) (full : IsStoreFull sorts s) where
  abbrev terms : List Name → List TermId
  terms = terms_named s.list.items

  pub terms_before : (names : List Name) → AreNamesDeclared sorts names → AreBefore (length trees) (terms names)
  terms_before [] all = tt
  terms_before (x ∷ xs) all =
      (part_before (length trees) s.list.items x.0 _ ready.0 (got_named s.list.items x.0 (full x.0 all.0)), terms_before xs all.1)

  pub terms_present : (names : List Name) → AreNamesDeclared sorts names →
      arguments_in trees names (terms names) ≡ present (store_in trees s) (numbers names)
  terms_present [] all = refl
  terms_present (x ∷ xs) all =
      let here = ap (tree_or_start trees x.0) (got_named s.list.items x.0 (full x.0 all.0)) in
      let rest = terms_present xs all.1 in
      λ i. Given x.0 (sym here i) (rest i)

  pub terms_fit : (names : List Name) → AreNamesDeclared sorts names → arguments_fit sorts trees names (terms names) ≡ true
  terms_fit [] all = refl
  terms_fit (x ∷ xs) all =
      let t = get_or s.list.items x.0 (record { 0 = 0 }) in
      and_from _ _
      (sort_got sorts trees t (store_in trees s x.0) (sort_named sorts x.0)
      (name_stored trees s x.0 t ready.0 (got_named s.list.items x.0 (full x.0 all.0)))
      (of_declared sorts (store_in trees s) ready.1 x.0 all.0).1)
      (terms_fit xs all.1)

-- the store in which some names have summaries
abbrev pub summed : Code → SymbolicStore → List ℕ → SymbolicStore
summed c f names y = if is_in names y then Fun c y (present f (inputs c y)) else f y

pub summed_more : (c : Code) (f : SymbolicStore) (names : List ℕ) (x : ℕ) →
    with_term (summed c f names) x (Fun c x (present f (inputs c x))) ≡ summed c f (names ++ x ∷ [])
summed_more c f names x =
    fun_ext (λ (y : ℕ). by y (y == x) (is_in names y) refl
    ∙ ap (λ b. if b then Fun c y (present f (inputs c y)) else f y) (sym (list_any-append (λ (z : ℕ). y == z) names (x ∷ []))))
  where
    by : (y : ℕ) (p q : Bool) → (y == x) ≡ p →
        (if p then Fun c x (present f (inputs c x)) else (if q then Fun c y (present f (inputs c y)) else f y))
        ≡ (if q || (p || false) then Fun c y (present f (inputs c y)) else f y)
    by y true true e = ap (λ z. Fun c z (present f (inputs c z))) (sym (eqb-true y x e))
    by y true false e = ap (λ z. Fun c z (present f (inputs c z))) (sym (eqb-true y x e))
    by y false true e = refl
    by y false false e = refl

pub summed_all : (c : Code) (f : SymbolicStore) (names : List ℕ) → ((x : ℕ) → is_in names x ≡ assigns c x) →
    summed c f names ≡ summarized c f
summed_all c f names all = fun_ext (λ (y : ℕ). ap (λ b. if b then Fun c y (present f (inputs c y)) else f y) (all y))

-- a name of a list is in it
pub is_in_at : (l : List ℕ) (i d : ℕ) → i < length l → is_in l (get_or l i d) ≡ true
is_in_at [] i d h = absurd (omega arith)
is_in_at (x ∷ xs) zero d h = ap (λ b. b || is_in xs x) (eq-eqb x x refl)
is_in_at (x ∷ xs) (suc i) d h = right (get_or xs i d == x) (is_in xs (get_or xs i d)) (is_in_at xs i d (omega arith))
  where
    right : (p q : Bool) → q ≡ true → (p || q) ≡ true
    right true q e = refl
    right false q e = e

-- the numbers of names so far
pub number_at : (names : List Name) (i d : ℕ) → get_or (numbers names) i d ≡ (get_or names i (record { 0 = d })).0
number_at [] i d = refl
number_at (x ∷ xs) zero d = refl
number_at (x ∷ xs) (suc i) d = number_at xs i d

pub length-numbers : (names : List Name) → length (numbers names) ≡ length names
length-numbers [] = refl
length-numbers (x ∷ xs) = ap suc (length-numbers xs)

pub numbers_more : (names : List Name) (i : ℕ) → i < length names →
    take (i + 1) (numbers names) ≡ take i (numbers names) ++ (get_or names i (record { 0 = 0 })).0 ∷ []
numbers_more names i h =
    let long = length-numbers names in
    take_more (numbers names) i 0 (omega arith) ∙ ap (λ (x : ℕ). take i (numbers names) ++ x ∷ []) (number_at names i 0)

pub name_in : (names : List Name) (i : ℕ) → i < length names → is_in (numbers names) (get_or names i (record { 0 = 0 })).0 ≡ true
name_in names i h = let long = length-numbers names in
    ap (is_in (numbers names)) (sym (number_at names i 0)) ∙ is_in_at (numbers names) i 0 (omega arith)
