-- Stores that agree on what code needs run alike.
use Rattle.sm_deps.proofs.Imports.{◌≡◌, ◌≢◌, ◌⊎◌, ℕ, zero, suc, ℤ, Bool, true, false, IsTrue, ◌==◌, ◌||◌, if◌then◌else◌, Option, Some, None, inl, inr, ⊎_elim, refl, sym, subst, cases_eq, eqb-true, eqb-false, or_left, or_right, is_in, Expression, Lit, Var, Read, Neg, Plus, Minus, Times, Condition, Yes, No, Compare, Not, Code, End, Skip, Write, If, While, Hole, Sorts, IsWellSortedExpression, IsWellSortedCondition, IsWellSorted, Sort, Num, Arr, mentions, tests, NamePredicate, Picked, Least, Needs, inputs, itself}
use Rattle.sm_syntax.specs.claim.Syntax.{And, Or, Assign}
use Rattle.sm_syntax.specs.claim.Stores.{Value, Array, number, array, Store, put, with_element}
use Rattle.sm_syntax.specs.claim.Meaning.{value_of, truth_of, and_then, turns, written, run}
use Rattle.sm_deps.specs.Laws.{EndAlike, SameIfSorted}
use Rattle.sm_deps.proofs.NeedsLemmas.{least_starts, least_stays}
use Rattle.sm_deps.proofs.InputsExact.{inputs_exact}

-- when two values of a name are alike
abbrev Likeness : Type 1
Likeness = ℕ → Value → Value → Type 0

-- stores whose values are alike at some names
abbrev Agree : Likeness → NamePredicate → Store → Store → Type 0
Agree alike names s t = (x : ℕ) → names x → alike x (s x) (t x)

-- each step of code goes from stores that agree to stores that agree
abbrev Carries : Likeness → Code → Type 0
Carries alike End = Unit {0}
Carries alike (Skip k) = Carries alike k
Carries alike (Assign x e k) =
    ((s t : Store) → Agree alike (Picked (mentions e)) s t → alike x (value_of e s) (value_of e t)) × Carries alike k
Carries alike (Write a i e k) =
    ((s t : Store) → alike a (s a) (t a) → Agree alike (Picked (mentions i)) s t → Agree alike (Picked (mentions e)) s t
    → alike a (written s a i e a) (written t a i e a)) ×
    Carries alike k
Carries alike (If b c d k) =
    ((s t : Store) → Agree alike (Picked (tests b)) s t → truth_of b s ≡ truth_of b t) × Carries alike c × Carries alike d × Carries alike k
Carries alike (While b c k) =
    ((s t : Store) → Agree alike (Picked (tests b)) s t → truth_of b s ≡ truth_of b t) × Carries alike c × Carries alike k
Carries alike (Hole h k) = Carries alike k

-- what goes on from alike ends
then_alike : (P Q : Store → Store → Type 0) (o p : Option Store) (f g : Store → Option Store) →
    EndAlike P o p → ((s t : Store) → P s t → EndAlike Q (f s) (g t)) → EndAlike Q (and_then o f) (and_then p g)
then_alike P Q None None f g now later = tt
then_alike P Q None (Some t) f g now later = absurd now
then_alike P Q (Some s) None f g now later = absurd now
then_alike P Q (Some s) (Some t) f g now later = later s t now

-- a choice of two branches by equal tests: the ends are alike where those of the branches are
if_alike : (P : Store → Store → Type 0) (b c : Bool) (o p q r : Option Store) →
    b ≡ c → EndAlike P o p → EndAlike P q r → EndAlike P (if b then o else q) (if c then p else r)
if_alike P true true o p q r same first second = first
if_alike P true false o p q r same first second = absurd cc
if_alike P false true o p q r same first second = absurd cc
if_alike P false false o p q r same first second = second

-- a loop whose guard and body go by what agrees
turns_alike : (P : Store → Store → Type 0) (guard : Store → Bool) (body : Store → Option Store) →
    ((s t : Store) → P s t → guard s ≡ guard t) → ((s t : Store) → P s t → EndAlike P (body s) (body t)) →
    (n : ℕ) (s t : Store) → P s t → EndAlike P (turns guard body n s) (turns guard body n t)
turns_alike P guard body same inner zero s t h = if_alike P (guard s) (guard t) None None (Some s) (Some t) (same s t h) tt h
turns_alike P guard body same inner (suc n) s t h =
    if_alike P (guard s) (guard t) (and_then (body s) (turns guard body n)) (and_then (body t) (turns guard body n)) (Some s) (Some t)
    (same s t h)
    (then_alike P P (body s) (body t) (turns guard body n) (turns guard body n) (inner s t h) (turns_alike P guard body same inner n))
    h

-- new values at y that are alike, and values at x that are alike where x is another name
put_alike : (alike : Likeness) (s t : Store) (y : ℕ) (u v : Value) (x : ℕ) → (x ≡ y → alike y u v) → (x ≢ y → alike x (s x) (t x)) →
    alike x (put s y u x) (put t y v x)
put_alike alike s t y u v x new old = go (x == y) refl where
  go : (b : Bool) → (x == y) ≡ b → alike x (if b then u else s x) (if b then v else t x)
  go true is = let same : x ≡ y = eqb-true x y is in subst (λ (z : ℕ). alike z u v) (sym same) (new same)
  go false is = old (eqb-false x y is)

-- ends at which the wanted names agree
abbrev Ends : Likeness → NamePredicate → Option Store → Option Store → Type 0
Ends alike wanted o p = EndAlike (Agree alike wanted) o p

-- stores that agree on what code needs end alike, and agree on what is wanted
run_alike : (alike : Likeness) (n : ℕ) (c : Code) (wanted : NamePredicate) (s t : Store) →
    Carries alike c → Agree alike (Needs c wanted) s t → Ends alike wanted (run n c s) (run n c t)
run_alike alike n End wanted s t carries h = h
run_alike alike n (Skip k) wanted s t carries h = run_alike alike n k wanted s t carries h
run_alike alike n (Assign y e k) wanted s t carries h =
    run_alike alike n k wanted (put s y (value_of e s)) (put t y (value_of e t)) carries.1
    (λ (x : ℕ) (m : Needs k wanted x).
    put_alike alike s t y (value_of e s) (value_of e t) x
    (λ (same : x ≡ y). carries.0 s t (λ (z : ℕ) (used : IsTrue (mentions e z)). h z (inr (subst (Needs k wanted) same m, used))))
    (λ (other : x ≢ y). h x (inl (m, other))))
run_alike alike n (Write a i e k) wanted s t carries h =
    run_alike alike n k wanted (written s a i e) (written t a i e) carries.1
    (λ (x : ℕ) (m : Needs k wanted x).
    ⊎_elim
    (λ (same : x ≡ a).
    let here : Needs k wanted a = subst (Needs k wanted) same m in
    subst (λ (z : ℕ). alike z (written s a i e z) (written t a i e z)) (sym same)
    (carries.0 s t (h a (inl here)) (λ (z : ℕ) (used : IsTrue (mentions i z)). h z (inr (here, inl used)))
    (λ (z : ℕ) (used : IsTrue (mentions e z)). h z (inr (here, inr used)))))
    (λ (other : x ≢ a). put_alike alike s t a _ _ x (λ (same : x ≡ a). absurd (other same)) (λ (o : x ≢ a). h x (inl m)))
    (cases_eq x a))
run_alike alike n (If b c d k) wanted s t carries h =
    then_alike (Agree alike (Needs k wanted)) (Agree alike wanted)
    (if truth_of b s then run n c s else run n d s)
    (if truth_of b t then run n c t else run n d t)
    (run n k)
    (run n k)
    (if_alike (Agree alike (Needs k wanted)) (truth_of b s) (truth_of b t) (run n c s) (run n c t) (run n d s) (run n d t)
    (carries.0 s t (λ (x : ℕ) (used : IsTrue (tests b x)). h x (inr (inr used))))
    (run_alike alike n c (Needs k wanted) s t carries.1 (λ (x : ℕ) (m : Needs c (Needs k wanted) x). h x (inl m)))
    (run_alike alike n d (Needs k wanted) s t carries.2 (λ (x : ℕ) (m : Needs d (Needs k wanted) x). h x (inr (inl m)))))
    (λ (u v : Store) (g : Agree alike (Needs k wanted) u v). run_alike alike n k wanted u v carries.3 g)
run_alike alike n (While b c k) wanted s t carries h =
    let first : ℕ → Type 0 = λ (y : ℕ). Needs k wanted y ⊎ IsTrue (tests b y) in
    let loop : ℕ → Type 0 = Least first (Needs c) in
    then_alike (Agree alike loop) (Agree alike wanted) (turns (truth_of b) (run n c) n s) (turns (truth_of b) (run n c) n t) (run n k)
    (run n k)
    (turns_alike (Agree alike loop) (truth_of b) (run n c)
    (λ (u v : Store) (g : Agree alike loop u v).
    carries.0 u v (λ (x : ℕ) (used : IsTrue (tests b x)). g x (least_starts first (Needs c) x (inr used))))
    (λ (u v : Store) (g : Agree alike loop u v).
    run_alike alike n c loop u v carries.1 (λ (x : ℕ) (m : Needs c loop x). g x (least_stays first c x m)))
    n s t h)
    (λ (u v : Store) (g : Agree alike loop u v).
    run_alike alike n k wanted u v carries.2 (λ (x : ℕ) (m : Needs k wanted x). g x (least_starts first (Needs c) x (inl m))))
run_alike alike n (Hole h' k) wanted s t carries h = run_alike alike n k wanted s t carries h

-- equal values
abbrev Equal : Likeness
Equal x u v = u ≡ v

-- the two parts of an operation agree where the whole does
left_part : (alike : Likeness) (p q : ℕ → Bool) (s t : Store) → Agree alike (Picked (λ (x : ℕ). p x || q x)) s t
    → Agree alike (Picked p) s t
left_part alike p q s t h x used = h x (or_left (p x) (q x) used)

right_part : (alike : Likeness) (p q : ℕ → Bool) (s t : Store) → Agree alike (Picked (λ (x : ℕ). p x || q x)) s t
    → Agree alike (Picked q) s t
right_part alike p q s t h x used = h x (or_right (p x) (q x) used)

-- an expression's value goes by its names
value_same : (e : Expression) (s t : Store) → Agree Equal (Picked (mentions e)) s t → value_of e s ≡ value_of e t
value_same (Lit z) s t h = refl
value_same (Var x) s t h = h x (itself x)
value_same (Read a i) s t h =
    rw (h a (or_left (a == a) (mentions i a) (itself a)), value_same i s t (right_part Equal (λ (x : ℕ). x == a) (mentions i) s t h)) refl
value_same (Neg e) s t h = rw (value_same e s t h) refl
value_same (Plus d e) s t h =
    rw (
      value_same d s t (left_part Equal (mentions d) (mentions e) s t h),
      value_same e s t (right_part Equal (mentions d) (mentions e) s t h),
    ) refl
value_same (Minus d e) s t h =
    rw (
      value_same d s t (left_part Equal (mentions d) (mentions e) s t h),
      value_same e s t (right_part Equal (mentions d) (mentions e) s t h),
    ) refl
value_same (Times d e) s t h =
    rw (
      value_same d s t (left_part Equal (mentions d) (mentions e) s t h),
      value_same e s t (right_part Equal (mentions d) (mentions e) s t h),
    ) refl

-- so does a condition's truth
truth_same : (b : Condition) (s t : Store) → Agree Equal (Picked (tests b)) s t → truth_of b s ≡ truth_of b t
truth_same Yes s t h = refl
truth_same No s t h = refl
truth_same (Compare op d e) s t h =
    rw (
      value_same d s t (left_part Equal (mentions d) (mentions e) s t h),
      value_same e s t (right_part Equal (mentions d) (mentions e) s t h),
    ) refl
truth_same (Not b) s t h = rw (truth_same b s t h) refl
truth_same (And b c) s t h =
    rw (truth_same b s t (left_part Equal (tests b) (tests c) s t h), truth_same c s t (right_part Equal (tests b) (tests c) s t h)) refl
truth_same (Or b c) s t h =
    rw (truth_same b s t (left_part Equal (tests b) (tests c) s t h), truth_same c s t (right_part Equal (tests b) (tests c) s t h)) refl

-- a written element goes by the array and the names of index and value
written_same : (a : ℕ) (i e : Expression) (s t : Store) → s a ≡ t a → Agree Equal (Picked (mentions i)) s t
    → Agree Equal (Picked (mentions e)) s t →
    written s a i e a ≡ written t a i e a
written_same a i e s t old place new =
    put_alike Equal s t a (Array (with_element (array (s a)) (number (value_of i s)) (number (value_of e s))))
    (Array (with_element (array (t a)) (number (value_of i t)) (number (value_of e t)))) a
    (λ (same : a ≡ a). rw (old, value_same i s t place, value_same e s t new) refl)
    (λ (other : a ≢ a). absurd (other refl))

-- code carries equal values
carries_equal : (c : Code) → Carries Equal c
carries_equal End = tt
carries_equal (Skip k) = carries_equal k
carries_equal (Assign x e k) = (value_same e, carries_equal k)
carries_equal (Write a i e k) = (written_same a i e, carries_equal k)
carries_equal (If b c d k) = (truth_same b, carries_equal c, carries_equal d, carries_equal k)
carries_equal (While b c k) = (truth_same b, carries_equal c, carries_equal k)
carries_equal (Hole h k) = carries_equal k

-- ends that agree at more
ends_wider : (P Q : Store → Store → Type 0) (o p : Option Store) → ((s t : Store) → P s t → Q s t) → EndAlike P o p → EndAlike Q o p
ends_wider P Q None None f h = tt
ends_wider P Q None (Some t) f h = h
ends_wider P Q (Some s) None f h = h
ends_wider P Q (Some s) (Some t) f h = f s t h

-- stores that agree on the inputs for a name end alike, and agree on it there
pub inputs_alike : (n : ℕ) (c : Code) (w : ℕ) (s t : Store) → ((x : ℕ) → IsTrue (is_in (inputs c w) x) → s x ≡ t x) →
    EndAlike (λ (u v : Store). u w ≡ v w) (run n c s) (run n c t)
inputs_alike n c w s t h =
    ends_wider (Agree Equal (λ (y : ℕ). y ≡ w)) (λ (u v : Store). u w ≡ v w) (run n c s) (run n c t)
    (λ (u v : Store) (g : Agree Equal (λ (y : ℕ). y ≡ w) u v). g w refl)
    (run_alike Equal n c (λ (y : ℕ). y ≡ w) s t (carries_equal c)
    (λ (x : ℕ) (m : Needs c (λ (y : ℕ). y ≡ w) x). h x (((inputs_exact c w).1 x).1 m)))

-- values that are equal as what is declared
abbrev BySort : Sorts → Likeness
BySort sorts x u v = SameIfSorted (sorts x) u v

-- a number's part of two values that are equal as numbers
as_number : (o : Option Sort) (u v : Value) → o ≡ Some Num → SameIfSorted o u v → number u ≡ number v
as_number o u v sort h = subst (λ (p : Option Sort). SameIfSorted p u v) sort h

-- the elements of two values that are equal as arrays
as_array : (o : Option Sort) (u v : Value) → o ≡ Some Arr → SameIfSorted o u v → (i : ℤ) → array u i ≡ array v i
as_array o u v sort h = subst (λ (p : Option Sort). SameIfSorted p u v) sort h

-- the number of a well-sorted expression goes by its names
number_same : (sorts : Sorts) (e : Expression) (s t : Store) → IsWellSortedExpression sorts e
    → Agree (BySort sorts) (Picked (mentions e)) s t →
    number (value_of e s) ≡ number (value_of e t)
number_same sorts (Lit z) s t good h = refl
number_same sorts (Var x) s t good h = as_number (sorts x) (s x) (t x) good (h x (itself x))
number_same sorts (Read a i) s t good h =
    rw (number_same sorts i s t good.1 (right_part (BySort sorts) (λ (x : ℕ). x == a) (mentions i) s t h))
    (as_array (sorts a) (s a) (t a) good.0 (h a (or_left (a == a) (mentions i a) (itself a))) (number (value_of i t)))
number_same sorts (Neg e) s t good h = rw (number_same sorts e s t good h) refl
number_same sorts (Plus d e) s t good h =
    rw (
      number_same sorts d s t good.0 (left_part (BySort sorts) (mentions d) (mentions e) s t h),
      number_same sorts e s t good.1 (right_part (BySort sorts) (mentions d) (mentions e) s t h),
    )
    refl
number_same sorts (Minus d e) s t good h =
    rw (
      number_same sorts d s t good.0 (left_part (BySort sorts) (mentions d) (mentions e) s t h),
      number_same sorts e s t good.1 (right_part (BySort sorts) (mentions d) (mentions e) s t h),
    )
    refl
number_same sorts (Times d e) s t good h =
    rw (
      number_same sorts d s t good.0 (left_part (BySort sorts) (mentions d) (mentions e) s t h),
      number_same sorts e s t good.1 (right_part (BySort sorts) (mentions d) (mentions e) s t h),
    )
    refl

-- so does the truth of a well-sorted condition
truth_same_by_sort : (sorts : Sorts) (b : Condition) (s t : Store) → IsWellSortedCondition sorts b
    → Agree (BySort sorts) (Picked (tests b)) s t → truth_of b s ≡ truth_of b t
truth_same_by_sort sorts Yes s t good h = refl
truth_same_by_sort sorts No s t good h = refl
truth_same_by_sort sorts (Compare op d e) s t good h =
    rw (
      number_same sorts d s t good.0 (left_part (BySort sorts) (mentions d) (mentions e) s t h),
      number_same sorts e s t good.1 (right_part (BySort sorts) (mentions d) (mentions e) s t h),
    )
    refl
truth_same_by_sort sorts (Not b) s t good h = rw (truth_same_by_sort sorts b s t good h) refl
truth_same_by_sort sorts (And b c) s t good h =
    rw (
      truth_same_by_sort sorts b s t good.0 (left_part (BySort sorts) (tests b) (tests c) s t h),
      truth_same_by_sort sorts c s t good.1 (right_part (BySort sorts) (tests b) (tests c) s t h),
    )
    refl
truth_same_by_sort sorts (Or b c) s t good h =
    rw (
      truth_same_by_sort sorts b s t good.0 (left_part (BySort sorts) (tests b) (tests c) s t h),
      truth_same_by_sort sorts c s t good.1 (right_part (BySort sorts) (tests b) (tests c) s t h),
    )
    refl

-- arrays with a new element are equal where the parts are
element_same : (f g : ℤ → ℤ) (i k y z j : ℤ) → i ≡ k → y ≡ z → f j ≡ g j → with_element f i y j ≡ with_element g k z j
element_same f g i k y z j place new old = rw (place, new, old) refl

-- code that is well sorted carries values that are equal by sort
carries_by_sort : (sorts : Sorts) (c : Code) → IsWellSorted sorts c → Carries (BySort sorts) c
carries_by_sort sorts End good = tt
carries_by_sort sorts (Skip k) good = carries_by_sort sorts k good
carries_by_sort sorts (Assign x e k) good = (
  λ (s t : Store) (h : Agree (BySort sorts) (Picked (mentions e)) s t).
      subst (λ (o : Option Sort). SameIfSorted o (value_of e s) (value_of e t)) (sym good.0) (number_same sorts e s t good.1 h),
  carries_by_sort sorts k good.2,
)
carries_by_sort sorts (Write a i e k) good = (
  λ (s t : Store) (old : SameIfSorted (sorts a) (s a) (t a)) (place : Agree (BySort sorts) (Picked (mentions i)) s t)
      (new : Agree (BySort sorts) (Picked (mentions e)) s t).
      let u = Array (with_element (array (s a)) (number (value_of i s)) (number (value_of e s))) in
      let v = Array (with_element (array (t a)) (number (value_of i t)) (number (value_of e t))) in
      put_alike (BySort sorts) s t a u v a
      (λ (same : a ≡ a).
      subst (λ (o : Option Sort). SameIfSorted o u v) (sym good.0)
      (λ (j : ℤ).
      element_same (array (s a)) (array (t a)) (number (value_of i s)) (number (value_of i t)) (number (value_of e s))
      (number (value_of e t)) j
      (number_same sorts i s t good.1 place)
      (number_same sorts e s t good.2 new)
      (as_array (sorts a) (s a) (t a) good.0 old j)))
      (λ (other : a ≢ a). absurd (other refl)),
  carries_by_sort sorts k good.3,
)
carries_by_sort sorts (If b c d k) good = (
  λ (s t : Store) (h : Agree (BySort sorts) (Picked (tests b)) s t). truth_same_by_sort sorts b s t good.0 h,
  carries_by_sort sorts c good.1,
  carries_by_sort sorts d good.2,
  carries_by_sort sorts k good.3,
)
carries_by_sort sorts (While b c k) good = (
  λ (s t : Store) (h : Agree (BySort sorts) (Picked (tests b)) s t). truth_same_by_sort sorts b s t good.0 h,
  carries_by_sort sorts c good.1,
  carries_by_sort sorts k good.2,
)
carries_by_sort sorts (Hole h k) good = carries_by_sort sorts k good

-- well-sorted code runs alike from stores that agree by sort on the inputs for a name
pub inputs_alike_by_sort : (sorts : Sorts) (n : ℕ) (c : Code) (w : ℕ) (s t : Store) → IsWellSorted sorts c →
    ((x : ℕ) → IsTrue (is_in (inputs c w) x) → SameIfSorted (sorts x) (s x) (t x)) →
    EndAlike (λ (u v : Store). SameIfSorted (sorts w) (u w) (v w)) (run n c s) (run n c t)
inputs_alike_by_sort sorts n c w s t good h =
    ends_wider (Agree (BySort sorts) (λ (y : ℕ). y ≡ w)) (λ (u v : Store). SameIfSorted (sorts w) (u w) (v w)) (run n c s) (run n c t)
    (λ (u v : Store) (g : Agree (BySort sorts) (λ (y : ℕ). y ≡ w) u v). g w refl)
    (run_alike (BySort sorts) n c (λ (y : ℕ). y ≡ w) s t (carries_by_sort sorts c good)
    (λ (x : ℕ) (m : Needs c (λ (y : ℕ). y ≡ w) x). h x (((inputs_exact c w).1 x).1 m)))
