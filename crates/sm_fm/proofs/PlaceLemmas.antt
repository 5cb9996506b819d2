-- Forms by their places, and the pairs in which an atom cancels.
use Rattle.sm_fm.proofs.Imports.{◌≡◌, ◌<◌, ◌+◌, ◌==◌, ℕ, suc, ℤ, pos, negsuc, Bool, true, false, ◌&&◌, ◌||◌, not, IsTrue, cond, Option, Some, None, option_map, List, [], ◌∷◌, ◌++◌, map, length, get_or, drop, refl, sym, ap, subst, ◌∙◌, arith, find, range_with_len, All, int_eq, map-append, get_or_append_left, get_or-drop, drop-drop, All-nil, All-cons, All-head, All-tail, All-append, All-map, All-filter, All-weaker, filter_passes, Linear, has_no_part, is_equation, is_negative, signs_alike, Placed, has_atom, is_below, is_above, is_pivot, crossed, pairs_with, pairs, placed_from, no_form, form_at, placed_at, both_at, places_of, crossed_places, place_pairs_with, pivot_place, place_pairs, AreWithin, IsPair}
use Rattle.std.specs.List.{filter}
use Rattle.sm_fm.specs.Elimination.{coefficient_at}
use Rattle.sm_fm.specs.declared.roles.Role.TheVariants.{Below, Above, Beside}

-- a choice goes through a function
filter_step : (p : ℕ → Placed) (b : Bool) (n : ℕ) (ns : List ℕ) (rest : List Placed) → map p ns ≡ rest →
    map p (cond b (n ∷ ns) ns) ≡ cond b (p n ∷ rest) rest
filter_step p true n ns rest e = ap (λ (l : List Placed). p n ∷ l) e
filter_step p false n ns rest e = e

-- the forms at chosen places are the chosen forms
pub map-filter : (p : ℕ → Placed) (test : Placed → Bool) (ns : List ℕ) → map p (filter (λ n. test (p n)) ns) ≡ filter test (map p ns)
map-filter p test [] = refl
map-filter p test (n ∷ ns) = filter_step p (test (p n)) n (filter (λ k. test (p k)) ns) (filter test (map p ns)) (map-filter p test ns)

find_step : (p : ℕ → Placed) (b : Bool) (n : ℕ) (here : Option ℕ) (there : Option Placed) → there ≡ option_map p here →
    cond b (Some (p n)) there ≡ option_map p (cond b (Some n) here)
find_step p true n here there e = refl
find_step p false n here there e = e

-- the form at the first chosen place is the first chosen form
find-map : (p : ℕ → Placed) (test : Placed → Bool) (ns : List ℕ) → find test (map p ns) ≡ option_map p (find (λ n. test (p n)) ns)
find-map p test [] = refl
find-map p test (n ∷ ns) = find_step p (test (p n)) n (find (λ k. test (p k)) ns) (find test (map p ns)) (find-map p test ns)

-- a form with a part says something
pub some_part : (ps : List (ℕ × ℤ)) → 0 < length ps → has_no_part ps ≡ false
some_part [] some = absurd (omega arith)
some_part (p ∷ ps) some = refl

-- the pairs of one place
map-led : (forms : List (Linear ℕ)) (f : ℕ) (gs : List ℕ) →
    map (both_at forms) (map (λ g. (f, g)) gs) ≡ map (λ (g : Placed). (placed_at forms f, g)) (map (placed_at forms) gs)
map-led forms f [] = refl
map-led forms f (g ∷ gs) = ap (λ (l : List (Placed × Placed)). (placed_at forms f, placed_at forms g) ∷ l) (map-led forms f gs)

-- the forms at crossed places are crossed
map-crossed : (forms : List (Linear ℕ)) (fs gs : List ℕ) →
    map (both_at forms) (crossed_places fs gs) ≡ crossed (map (placed_at forms) fs) (map (placed_at forms) gs)
map-crossed forms [] gs = refl
map-crossed forms (f ∷ fs) gs =
    map-append (both_at forms) (map (λ g. (f, g)) gs) (crossed_places fs gs)
    ∙ ap (λ (l : List (Placed × Placed)). l ++ map (both_at forms) (crossed_places fs gs)) (map-led forms f gs)
    ∙ ap (λ (l : List (Placed × Placed)). map (λ (g : Placed). (placed_at forms f, g)) (map (placed_at forms) gs) ++ l)
    (map-crossed forms fs gs)

-- all with one
crossed-one : (fs : List Placed) (g : Placed) → crossed fs (g ∷ []) ≡ map (λ f. (f, g)) fs
crossed-one [] g = refl
crossed-one (f ∷ fs) g = ap (λ (l : List (Placed × Placed)). (f, g) ∷ l) (crossed-one fs g)

-- the pairs of places are those of the forms, for any pivot
with_are : (forms : List (Linear ℕ)) (t : ℕ) (ns : List ℕ) (pivot : Option ℕ) →
    map (both_at forms) (place_pairs_with pivot t forms ns) ≡ pairs_with (option_map (placed_at forms) pivot) t (map (placed_at forms) ns)
with_are forms t ns None =
    map-crossed forms (places_of Below t forms ns) (places_of Above t forms ns)
    ∙ ap (λ (l : List Placed). crossed l (map (placed_at forms) (places_of Above t forms ns)))
    (map-filter (placed_at forms) (is_below t) ns)
    ∙ ap (crossed (filter (is_below t) (map (placed_at forms) ns))) (map-filter (placed_at forms) (is_above t) ns)
with_are forms t ns (Some pivot) =
    map-crossed forms (places_of (Beside pivot) t forms ns) (pivot ∷ [])
    ∙ crossed-one (map (placed_at forms) (places_of (Beside pivot) t forms ns)) (placed_at forms pivot)
    ∙ ap (map (λ f. (f, placed_at forms pivot)))
    (map-filter (placed_at forms) (λ (f : Placed). has_atom t f && not (f.place == pivot)) ns)

-- the pairs of places are those of the forms
pub pairs_are : (forms : List (Linear ℕ)) (t : ℕ) (ns : List ℕ) →
    map (both_at forms) (place_pairs t forms ns) ≡ pairs t (map (placed_at forms) ns)
pairs_are forms t ns =
    with_are forms t ns (pivot_place t forms ns)
    ∙ ap (λ (o : Option Placed). pairs_with o t (map (placed_at forms) ns)) (sym (find-map (placed_at forms) (is_pivot t) ns))

-- forms with their places, from one on
placed_on : (all fs : List (Linear ℕ)) (n : ℕ) → drop n all ≡ fs → map (placed_at all) (range_with_len n (length fs)) ≡ placed_from n fs
placed_on all [] n e = refl
placed_on all (f ∷ fs) n e =
    let next : n + 1 ≡ suc n = omega arith in
    let here : form_at all n ≡ f =
    ap (λ (k : ℕ). form_at all k) (omega arith) ∙ sym (get_or-drop n all 0 no_form) ∙ ap (λ (l : List (Linear ℕ)). get_or l 0 no_form) e in
    let rest : drop (n + 1) all ≡ fs = sym (drop-drop 1 n all) ∙ ap (drop 1) e in
    ap (λ (g : Linear ℕ). record { place = n; form = g } ∷ map (placed_at all) (range_with_len (n + 1) (length fs))) here
    ∙ ap (λ (l : List Placed). record { place = n; form = f } ∷ l) (placed_on all fs (n + 1) rest ∙ ap (λ (k : ℕ). placed_from k fs) next)

-- all forms by their places
pub placed_are : (forms : List (Linear ℕ)) → map (placed_at forms) (range_with_len 0 (length forms)) ≡ placed_from 0 forms
placed_are forms = placed_on forms forms 0 refl

-- two functions that agree at each element
pub map-agree : {X Y : Type 0} (P : X → Type 0) (f g : X → Y) → ((x : X) → P x → f x ≡ g x) → (xs : List X) → All P xs → map f xs ≡ map g xs
map-agree P f g agree [] all = refl
map-agree {Y = Y} P f g agree (x ∷ xs) all =
    ap (λ (y : Y). y ∷ map f xs) (agree x (All-head P x xs all)) ∙ ap (λ (l : List Y). g x ∷ l)
    (map-agree P f g agree xs (All-tail P x xs all))

-- what stands at a place stays there
pub form_stays : (forms : List (Linear ℕ)) (h : Linear ℕ) (n : ℕ) → n < length forms → form_at (forms ++ h ∷ []) n ≡ form_at forms n
form_stays forms h n lt = get_or_append_left forms (h ∷ []) no_form n lt

pub placed_stays : (forms : List (Linear ℕ)) (h : Linear ℕ) (n : ℕ) → n < length forms → placed_at (forms ++ h ∷ []) n ≡ placed_at forms n
placed_stays forms h n lt = ap (λ (f : Linear ℕ). record { place = n; form = f }) (form_stays forms h n lt)

-- something of all pairs of two lists
all_led : (P Q : ℕ → Type 0) (R : ℕ × ℕ → Type 0) → ((f g : ℕ) → P f → Q g → R (f, g)) → (f : ℕ) → P f → (gs : List ℕ) → All Q gs →
    All R (map (λ g. (f, g)) gs)
all_led P Q R both f here gs all = All-map R (λ g. (f, g)) gs (All-weaker Q (λ g. R (f, g)) (λ g there. both f g here there) gs all)

all_crossed : (P Q : ℕ → Type 0) (R : ℕ × ℕ → Type 0) → ((f g : ℕ) → P f → Q g → R (f, g)) → (fs gs : List ℕ) → All P fs → All Q gs →
    All R (crossed_places fs gs)
all_crossed P Q R both [] gs first second = All-nil R
all_crossed P Q R both (f ∷ fs) gs first second =
    All-append R (map (λ g. (f, g)) gs) (crossed_places fs gs)
    (all_led P Q R both f (All-head P f fs first) gs second)
    (all_crossed P Q R both fs gs (All-tail P f fs first) second)

-- a conjunction's parts
pub and_first : (a b : Bool) → a && b ≡ true → a ≡ true
and_first true b e = refl
and_first false b e = e

pub and_second : (a b : Bool) → a && b ≡ true → b ≡ true
and_second true b e = e
and_second false b e = absurd cc

all_told : (a b k l s : Bool) → a ≡ true → b ≡ true → s ≡ true → IsTrue (a && (b && (k || (l || s))))
all_told a b true l s first second third = rw (first, second) refl
all_told a b false true s first second third = rw (first, second) refl
all_told a b false false s first second third = rw (first, second, third) refl

-- coefficients of opposite signs cancel
opposite : (a b : ℤ) (k l : Bool) → is_negative a ≡ true → not (int_eq b (pos 0)) && not (is_negative b) ≡ true →
    IsTrue (not (int_eq a (pos 0)) && (not (int_eq b (pos 0)) && (k || (l || not (signs_alike a b)))))
opposite (pos n) b k l below above = absurd cc
opposite (negsuc n) b k l below above =
    all_told true (not (int_eq b (pos 0))) k l (not (is_negative b)) refl (and_first (not (int_eq b (pos 0))) (not (is_negative b)) above)
    (and_second (not (int_eq b (pos 0))) (not (is_negative b)) above)

-- coefficients that aren't 0 cancel, where the second is one of an equation
with_equation : (a b k l s : Bool) → a ≡ true → l && b ≡ true → IsTrue (a && (b && (k || (l || s))))
with_equation true true true true s first second = refl
with_equation true true false true s first second = refl
with_equation true true k false s first second = absurd cc
with_equation true false k true s first second = absurd cc
with_equation true false k false s first second = absurd cc
with_equation false b k l s first second = absurd cc

-- what is found passes and is one of them
found_step : (P : ℕ → Type 0) (test : ℕ → Bool) (n m : ℕ) (rest : Option ℕ) (b : Bool) → test n ≡ b → P n →
    (rest ≡ Some m → P m × (test m ≡ true)) → cond b (Some n) rest ≡ Some m → P m × (test m ≡ true)
found_step P test n m rest true is here later e =
    let same : n ≡ m = cc in (subst P same here, ap test (sym same) ∙ is)
found_step P test n m rest false is here later e = later e

found : (P : ℕ → Type 0) (test : ℕ → Bool) (m : ℕ) (ns : List ℕ) → All P ns → find test ns ≡ Some m → P m × (test m ≡ true)
found P test m [] all e = absurd cc
found P test m (n ∷ ns) all e =
    found_step P test n m (find test ns) (test n) refl (All-head P n ns all) (found P test m ns (All-tail P n ns all)) e

module _ (forms : List (Linear ℕ)) (t : ℕ) (ns : List ℕ) (within : AreWithin (length forms) ns) where
  -- a place in the list at which a test passes
  abbrev Passes : (Placed → Bool) → ℕ → Type 0
  Passes test n = (n < length forms) × (test (placed_at forms n) ≡ true)

  passing : (test : Placed → Bool) → All (Passes test) (filter (λ n. test (placed_at forms n)) ns)
  passing test = λ k d lt. (
    All-filter (λ n. test (placed_at forms n)) (λ n. n < length forms) ns within k d lt,
    filter_passes (λ n. test (placed_at forms n)) ns k d lt,
  )

  cancel_with : (pivot : Option ℕ) → pivot_place t forms ns ≡ pivot → All (IsPair forms t) (place_pairs_with pivot t forms ns)
  cancel_with None e =
      all_crossed (Passes (is_below t)) (Passes (is_above t)) (IsPair forms t)
      (λ f g first second. record {
        first = first.0;
        second = second.0;
        cancels = opposite (coefficient_at t (placed_at forms f)) (coefficient_at t (placed_at forms g))
            (is_equation (form_at forms f).kind)
            (is_equation (form_at forms g).kind) first.1 second.1;
      })
      (places_of Below t forms ns) (places_of Above t forms ns) (passing (is_below t)) (passing (is_above t))
  cancel_with (Some pivot) e =
      let here = found (λ n. n < length forms) (λ n. is_pivot t (placed_at forms n)) pivot ns within e in
      all_crossed (Passes (λ (f : Placed). has_atom t f && not (f.place == pivot))) (Passes (is_pivot t)) (IsPair forms t)
      (λ f g first second. record {
        first = first.0;
        second = second.0;
        cancels = with_equation (has_atom t (placed_at forms f)) (has_atom t (placed_at forms g)) (is_equation (form_at forms f).kind)
            (is_equation (form_at forms g).kind)
            (not (signs_alike (coefficient_at t (placed_at forms f)) (coefficient_at t (placed_at forms g))))
            (and_first (has_atom t (placed_at forms f)) (not (f == pivot)) first.1) second.1;
      })
      (places_of (Beside pivot) t forms ns) (pivot ∷ []) (passing (λ (f : Placed). has_atom t f && not (f.place == pivot)))
      (All-cons (Passes (is_pivot t)) pivot [] here (All-nil (Passes (is_pivot t))))

  -- in each pair the atom cancels
  pub pairs_cancel : All (IsPair forms t) (place_pairs t forms ns)
  pairs_cancel = cancel_with (pivot_place t forms ns) refl

-- what is so of all places is so of those in pairs
have_with : (P : ℕ → Type 0) (forms : List (Linear ℕ)) (t : ℕ) (ns : List ℕ) → All P ns → (pivot : Option ℕ) →
    pivot_place t forms ns ≡ pivot →
    All (λ (p : ℕ × ℕ). P p.0 × P p.1) (place_pairs_with pivot t forms ns)
have_with P forms t ns all None e =
    all_crossed P P (λ (p : ℕ × ℕ). P p.0 × P p.1) (λ f g a b. (a, b)) (places_of Below t forms ns) (places_of Above t forms ns)
    (All-filter (λ n. is_below t (placed_at forms n)) P ns all) (All-filter (λ n. is_above t (placed_at forms n)) P ns all)
have_with P forms t ns all (Some pivot) e =
    all_crossed P P (λ (p : ℕ × ℕ). P p.0 × P p.1) (λ f g a b. (a, b)) (places_of (Beside pivot) t forms ns) (pivot ∷ [])
    (All-filter (λ n. has_atom t (placed_at forms n) && not (n == pivot)) P ns all)
    (All-cons P pivot [] (found P (λ n. is_pivot t (placed_at forms n)) pivot ns all e).0 (All-nil P))

pub pairs_have : (P : ℕ → Type 0) (forms : List (Linear ℕ)) (t : ℕ) (ns : List ℕ) → All P ns →
    All (λ (p : ℕ × ℕ). P p.0 × P p.1) (place_pairs t forms ns)
pairs_have P forms t ns all = have_with P forms t ns all (pivot_place t forms ns) refl
