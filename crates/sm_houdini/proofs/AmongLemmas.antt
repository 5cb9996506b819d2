-- Lists that stand in others, in any order or in the same one.
use Rattle.sm_houdini.proofs.Imports.{◌≡◌, inl, inr, ℕ, zero, suc, ◌+◌, ◌==◌, Bool, true, false, ◌||◌, List, [], ◌∷◌, ◌++◌, length, refl, sym, ap, ◌∙◌, subst, option_to_list, Decides-eqb, Copy, is_in, Assertion, at_stores, all_at_stores, SymbolicStore, picked, StandIn, or_left, or_right, get_in_first, get_in_second}
use Rattle.std.proofs.Common.{Option, Some, None, slice_get}
use Rattle.sm_houdini.proofs.DroppedLemmas.{map_at}
use Rattle.sm_houdini.proofs.PairedLemmas.{IsKept}
use Rattle.sm_lemmas.proofs.Tests.{itself as number_itself}

-- each formula is one of others
abbrev pub Among : List Assertion → List Assertion → Type 0
Among fs gs = (i : ℕ) (f : Assertion) → slice_get fs i ≡ Some f → (j : ℕ) × (slice_get gs j ≡ Some f)

pub among_itself : (fs : List Assertion) → Among fs fs
among_itself fs i f e = (i, e)

pub among_append : (fs gs xs ys : List Assertion) → Among fs gs → Among xs ys → Among (fs ++ xs) (gs ++ ys)
among_append [] gs xs ys h g i f e = let m = g i f e in (length gs + m.0, get_in_second gs ys m.0 ∙ m.1)
among_append (x ∷ fs) gs xs ys h g zero f e = let m = h 0 f e in (m.0, get_in_first gs ys m.0 f m.1)
among_append (x ∷ fs) gs xs ys h g (suc i) f e =
    among_append fs gs xs ys (λ (n : ℕ) (y : Assertion) (d : slice_get fs n ≡ Some y). h (suc n) y d) g i f e

among_stores : (stores : Copy → SymbolicStore) (fs gs : List Assertion) → Among fs gs →
    Among (all_at_stores stores fs) (all_at_stores stores gs)
among_stores stores [] gs h i f e = absurd cc
among_stores stores (x ∷ fs) gs h zero f e = let m = h 0 x refl in (m.0, map_at (at_stores stores) gs m.0 x m.1 ∙ e)
among_stores stores (x ∷ fs) gs h (suc i) f e =
    among_stores stores fs gs (λ (n : ℕ) (y : Assertion) (d : slice_get fs n ≡ Some y). h (suc n) y d) i f e

pub among_kept : IsKept Among
among_kept = record { itself = among_itself; append = among_append; stores = among_stores }

-- the number that a picked template has
number_of : (ts : List Assertion) (ns : List ℕ) (i : ℕ) (f : Assertion) → slice_get (picked ts ns) i ≡ Some f →
    (n : ℕ) × (is_in ns n ≡ true) × (slice_get ts n ≡ Some f)
number_of ts [] i f e = absurd cc
number_of ts (m ∷ ns) i f e =
    by (slice_get ts m) refl i e
    (λ (k : ℕ) (g : slice_get (picked ts ns) k ≡ Some f).
    let r = number_of ts ns k f g in (r.0, or_right (r.0 == m) (is_in ns r.0) r.1, r.2))
  where
    by : (o : Option Assertion) → slice_get ts m ≡ o → (k : ℕ) → slice_get (option_to_list o ++ picked ts ns) k ≡ Some f →
        ((j : ℕ) → slice_get (picked ts ns) j ≡ Some f → (n : ℕ) × (is_in (m ∷ ns) n ≡ true) × (slice_get ts n ≡ Some f)) →
        (n : ℕ) × (is_in (m ∷ ns) n ≡ true) × (slice_get ts n ≡ Some f)
    by None same k g later = later k g
    by (Some h) same zero g later = (m, or_left (m == m) (is_in ns m) (number_itself m), same ∙ g)
    by (Some h) same (suc k) g later = later k g

-- a template whose number is there is picked
picked_has : (ts : List Assertion) (ms : List ℕ) (n : ℕ) (f : Assertion) → is_in ms n ≡ true → slice_get ts n ≡ Some f →
    (j : ℕ) × (slice_get (picked ts ms) j ≡ Some f)
picked_has ts [] n f h e = absurd cc
picked_has ts (m ∷ ms) n f h e = by (n == m) refl h (λ (g : is_in ms n ≡ true). picked_has ts ms n f g e)
  where
    by : (b : Bool) → (n == m) ≡ b → (b || is_in ms n) ≡ true → (is_in ms n ≡ true → (j : ℕ) × (slice_get (picked ts ms) j ≡ Some f)) →
        (j : ℕ) × (slice_get (picked ts (m ∷ ms)) j ≡ Some f)
    by true same g later =
        let there : slice_get ts m ≡ Some f = ap (slice_get ts) (sym ((Decides-eqb n m).0 same)) ∙ e in
        (0, ap (λ (o : Option Assertion). slice_get (option_to_list o ++ picked ts ms) 0) there)
    by false same g later =
        let r = later g in
        (length (option_to_list (slice_get ts m)) + r.0, get_in_second (option_to_list (slice_get ts m)) (picked ts ms) r.0 ∙ r.1)

-- more numbers pick more templates
pub among_picked : (ts : List Assertion) (ns ms : List ℕ) → ((n : ℕ) → is_in ns n ≡ true → is_in ms n ≡ true) →
    Among (picked ts ns) (picked ts ms)
among_picked ts ns ms h i f e = let at = number_of ts ns i f e in picked_has ts ms at.0 f (h at.0 at.1) at.2

-- in the same order
pub stand_itself : {X : Type 0} (xs : List X) → StandIn xs xs
stand_itself [] = tt
stand_itself (x ∷ xs) = inl (refl, stand_itself xs)

pub stand_behind : {X : Type 0} (zs xs ys : List X) → StandIn xs ys → StandIn xs (zs ++ ys)
stand_behind [] xs ys h = h
stand_behind (z ∷ zs) [] ys h = tt
stand_behind (z ∷ zs) (x ∷ xs) ys h = inr (stand_behind zs (x ∷ xs) ys h)

pub stand_append : {X : Type 0} (fs gs xs ys : List X) → StandIn fs gs → StandIn xs ys → StandIn (fs ++ xs) (gs ++ ys)
stand_append [] gs xs ys h k = stand_behind gs xs ys k
stand_append (f ∷ fs) [] xs ys h k = absurd h
stand_append (f ∷ fs) (g ∷ gs) xs ys (inl h) k = inl (h.0, stand_append fs gs xs ys h.1 k)
stand_append (f ∷ fs) (g ∷ gs) xs ys (inr h) k = inr (stand_append (f ∷ fs) gs xs ys h k)

stand_stores : (stores : Copy → SymbolicStore) (fs gs : List Assertion) → StandIn fs gs →
    StandIn (all_at_stores stores fs) (all_at_stores stores gs)
stand_stores stores [] gs h = tt
stand_stores stores (f ∷ fs) [] h = absurd h
stand_stores stores (f ∷ fs) (g ∷ gs) (inl h) = inl (ap (at_stores stores) h.0, stand_stores stores fs gs h.1)
stand_stores stores (f ∷ fs) (g ∷ gs) (inr h) = inr (stand_stores stores (f ∷ fs) gs h)

-- of formulas
abbrev pub StandFormulas : List Assertion → List Assertion → Type 0
StandFormulas fs gs = StandIn fs gs

pub stand_kept : IsKept StandFormulas
stand_kept = record { itself = stand_itself; append = stand_append; stores = stand_stores }

pub stand_picked : (ts : List Assertion) (ns ms : List ℕ) → StandIn ns ms → StandFormulas (picked ts ns) (picked ts ms)
stand_picked ts [] ms h = tt
stand_picked ts (n ∷ ns) [] h = absurd h
stand_picked ts (n ∷ ns) (m ∷ ms) (inl h) =
    subst (λ (k : ℕ). StandFormulas (option_to_list (slice_get ts n) ++ picked ts ns) (option_to_list (slice_get ts k) ++ picked ts ms)) h.0
    (stand_append (option_to_list (slice_get ts n)) (option_to_list (slice_get ts n)) (picked ts ns) (picked ts ms)
    (stand_itself (option_to_list (slice_get ts n))) (stand_picked ts ns ms h.1))
stand_picked ts (n ∷ ns) (m ∷ ms) (inr h) =
    stand_behind (option_to_list (slice_get ts m)) (picked ts (n ∷ ns)) (picked ts ms) (stand_picked ts (n ∷ ns) ms h)

-- what stands in order is there
pub stand_in_has : (ns ms : List ℕ) (n : ℕ) → StandIn ns ms → is_in ns n ≡ true → is_in ms n ≡ true
stand_in_has [] ms n h e = absurd cc
stand_in_has (x ∷ ns) [] n h e = absurd h
stand_in_has (x ∷ ns) (y ∷ ms) n (inl h) e =
    by (n == x) (ap (λ (k : ℕ). n == k) (sym h.0)) e (stand_in_has ns ms n h.1)
  where
    by : (b : Bool) → (n == y) ≡ b → (b || is_in ns n) ≡ true → (is_in ns n ≡ true → is_in ms n ≡ true) → is_in (y ∷ ms) n ≡ true
    by true same g later = or_left (n == y) (is_in ms n) same
    by false same g later = or_right (n == y) (is_in ms n) (later g)
stand_in_has (x ∷ ns) (y ∷ ms) n (inr h) e = or_right (n == y) (is_in ms n) (stand_in_has (x ∷ ns) ms n h e)
