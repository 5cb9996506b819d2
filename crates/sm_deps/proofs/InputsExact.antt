-- The computed set is exactly what is needed.
use Rattle.sm_deps.proofs.Imports.{◌≡◌, ◌≢◌, ◌⊎◌, ◌↔◌, ◌≤◌, ◌<◌, ◌+◌, ℕ, zero, suc, Bool, true, false, cond, not, IsTrue, ◌==◌, ◌||◌, ◌&&◌, List, [], ◌∷◌, ◌++◌, map, length, inl, inr, ⊎_elim, refl, ap, ◌∙◌, arith, eqb-true, eqb-false, eq-eqb, ne_eqb, or_left, or_right, or_cases, and_parts, and_from, not-true, not_from_false, cases_eq, list_any-append, filter, range_with_len, IsStrictlyIncreasing, Sort, Num, Arr, is_in, Expression, Lit, Var, Read, Neg, Plus, Minus, Times, Condition, Yes, No, Compare, Not, Code, End, Skip, Write, If, While, Hole, mentions, tests, code_names, NamePredicate, Within, Picked, Needs, needed, greatest, Below}
use Rattle.std.proofs.lemmas.List.{map-append}
use Rattle.std.proofs.lemmas.List.FromFn.{length-range_with_len, get_or-range_with_len}
use Rattle.std.proofs.lemmas.List.Kept.{IsStrictlyIncreasing-filter}
use Rattle.sm_syntax.specs.text.Uses.{names_in, names_tested, names_used}
use Rattle.sm_syntax.specs.claim.Syntax.{And, Or, Assign}
use Rattle.sm_deps.specs.Inputs.{inputs}
use Rattle.sm_deps.proofs.GrownLemmas.{Closed, From, grown_starts, grown_within, grown_closed}

-- whether a name stands in a list of names with sorts
abbrev stands : List (ℕ × Sort) → ℕ → Bool
stands uses x = is_in (map (λ (u : ℕ × Sort). u.0) uses) x

-- in one of two lists
stands-append : (l m : List (ℕ × Sort)) (x : ℕ) → stands (l ++ m) x ≡ (stands l x || stands m x)
stands-append l m x =
    ap (λ (names : List ℕ). is_in names x) (map-append (λ (u : ℕ × Sort). u.0) l m) ∙
    list_any-append (λ (y : ℕ). x == y) (map (λ (u : ℕ × Sort). u.0) l) (map (λ (u : ℕ × Sort). u.0) m)

-- in the first one
in_first : (l m : List (ℕ × Sort)) (x : ℕ) → stands l x ≡ true → stands (l ++ m) x ≡ true
in_first l m x h = stands-append l m x ∙ or_left (stands l x) (stands m x) h

-- in the second one
in_second : (l m : List (ℕ × Sort)) (x : ℕ) → stands m x ≡ true → stands (l ++ m) x ≡ true
in_second l m x h = stands-append l m x ∙ or_right (stands l x) (stands m x) h

-- in one of both
in_either : (l m : List (ℕ × Sort)) (p q : Bool) (x : ℕ) → (p ≡ true → stands l x ≡ true) → (q ≡ true → stands m x ≡ true) → (p || q) ≡ true
    → stands (l ++ m) x ≡ true
in_either l m p q x first second h =
    ⊎_elim (λ (y : p ≡ true). in_first l m x (first y)) (λ (y : q ≡ true). in_second l m x (second y)) (or_cases p q h)

-- the names of an expression are listed
mentions_listed : (e : Expression) (x : ℕ) → mentions e x ≡ true → stands (names_in e) x ≡ true
mentions_listed (Lit z) x h = h
mentions_listed (Var y) x h = or_left (x == y) false h
mentions_listed (Read a i) x h =
    ⊎_elim (λ (here : (x == a) ≡ true). or_left (x == a) (stands (names_in i) x) here)
    (λ (inside : mentions i x ≡ true). or_right (x == a) (stands (names_in i) x) (mentions_listed i x inside))
    (or_cases (x == a) (mentions i x) h)
mentions_listed (Neg e) x h = mentions_listed e x h
mentions_listed (Plus d e) x h =
    in_either (names_in d) (names_in e) (mentions d x) (mentions e x) x (mentions_listed d x) (mentions_listed e x) h
mentions_listed (Minus d e) x h =
    in_either (names_in d) (names_in e) (mentions d x) (mentions e x) x (mentions_listed d x) (mentions_listed e x) h
mentions_listed (Times d e) x h =
    in_either (names_in d) (names_in e) (mentions d x) (mentions e x) x (mentions_listed d x) (mentions_listed e x) h

-- the names of a condition are listed
tests_listed : (b : Condition) (x : ℕ) → tests b x ≡ true → stands (names_tested b) x ≡ true
tests_listed Yes x h = h
tests_listed No x h = h
tests_listed (Compare op d e) x h =
    in_either (names_in d) (names_in e) (mentions d x) (mentions e x) x (mentions_listed d x) (mentions_listed e x) h
tests_listed (Not b) x h = tests_listed b x h
tests_listed (And b c) x h = in_either (names_tested b) (names_tested c) (tests b x) (tests c x) x (tests_listed b x) (tests_listed c x) h
tests_listed (Or b c) x h = in_either (names_tested b) (names_tested c) (tests b x) (tests c x) x (tests_listed b x) (tests_listed c x) h

-- wanted, or a name of the code
abbrev Known : Code → (ℕ → Bool) → ℕ → Type 0
Known c wanted x = (wanted x ≡ true) ⊎ (stands (names_used c) x ≡ true)

-- wanted, or among more names
known_wider : (wanted : ℕ → Bool) (x : ℕ) (l m : List (ℕ × Sort)) → (stands l x ≡ true → stands m x ≡ true) →
    (wanted x ≡ true) ⊎ (stands l x ≡ true) → (wanted x ≡ true) ⊎ (stands m x ≡ true)
known_wider wanted x l m wider h = ⊎_elim (λ (y : wanted x ≡ true). inl y) (λ (y : stands l x ≡ true). inr (wider y)) h

-- what is needed is wanted, or a name of the code
comes : (c : Code) (wanted : ℕ → Bool) (x : ℕ) → needed c wanted x ≡ true → Known c wanted x
comes End wanted x h = inl h
comes (Skip k) wanted x h = comes k wanted x h
comes (Assign y e k) wanted x h =
    ⊎_elim
    (λ (kept : (needed k wanted x && not (x == y)) ≡ true).
    known_wider wanted x (names_used k) ((y, Num) ∷ names_in e ++ names_used k)
    (λ (s : stands (names_used k) x ≡ true).
    or_right (x == y) (stands (names_in e ++ names_used k) x) (in_second (names_in e) (names_used k) x s))
    (comes k wanted x (and_parts (needed k wanted x) (not (x == y)) kept).0))
    (λ (new : (needed k wanted y && mentions e x) ≡ true).
    inr (or_right (x == y) (stands (names_in e ++ names_used k) x)
    (in_first (names_in e) (names_used k) x (mentions_listed e x (and_parts (needed k wanted y) (mentions e x) new).1))))
    (or_cases (needed k wanted x && not (x == y)) (needed k wanted y && mentions e x) h)
comes (Write a i e k) wanted x h =
    let used = names_in i ++ names_in e in
    ⊎_elim
    (λ (kept : needed k wanted x ≡ true).
    known_wider wanted x (names_used k) ((a, Arr) ∷ names_in i ++ names_in e ++ names_used k)
    (λ (s : stands (names_used k) x ≡ true). or_right (x == a) (stands (used ++ names_used k) x) (in_second used (names_used k) x s))
    (comes k wanted x kept))
    (λ (new : (needed k wanted a && (mentions i x || mentions e x)) ≡ true).
    inr
    (or_right (x == a) (stands (used ++ names_used k) x)
    (in_first used (names_used k) x
    (in_either (names_in i) (names_in e) (mentions i x) (mentions e x) x (mentions_listed i x) (mentions_listed e x)
    (and_parts (needed k wanted a) (mentions i x || mentions e x) new).1))))
    (or_cases (needed k wanted x) (needed k wanted a && (mentions i x || mentions e x)) h)
comes (If b c d k) wanted x h =
    let one = names_tested b in
    let two = names_tested b ++ names_used c in
    let three = names_tested b ++ names_used c ++ names_used d in
    let all = names_tested b ++ names_used c ++ names_used d ++ names_used k in
    let after : needed k wanted x ≡ true → (wanted x ≡ true) ⊎ (stands all x ≡ true) = λ m.
    known_wider wanted x (names_used k) all (in_second three (names_used k) x) (comes k wanted x m) in
    ⊎_elim
    (λ (first : needed c (needed k wanted) x ≡ true).
    ⊎_elim after
    (λ (s : stands (names_used c) x ≡ true).
    inr (in_first three (names_used k) x (in_first two (names_used d) x (in_second one (names_used c) x s))))
    (comes c (needed k wanted) x first))
    (λ (rest : (needed d (needed k wanted) x || tests b x) ≡ true).
    ⊎_elim
    (λ (second : needed d (needed k wanted) x ≡ true).
    ⊎_elim after (λ (s : stands (names_used d) x ≡ true). inr (in_first three (names_used k) x (in_second two (names_used d) x s)))
    (comes d (needed k wanted) x second))
    (λ (guard : tests b x ≡ true).
    inr (in_first three (names_used k) x (in_first two (names_used d) x (in_first one (names_used c) x (tests_listed b x guard)))))
    (or_cases (needed d (needed k wanted) x) (tests b x) rest))
    (or_cases (needed c (needed k wanted) x) (needed d (needed k wanted) x || tests b x) h)
comes (While b c k) wanted x h =
    let one = names_tested b in
    let two = names_tested b ++ names_used c in
    let all = names_tested b ++ names_used c ++ names_used k in
    let whole : ℕ → Bool = λ (y : ℕ). wanted y || stands all y in
    or_cases (wanted x) (stands all x)
    (grown_within (length (code_names c)) (needed c) (λ (y : ℕ). needed k wanted y || tests b y) whole
    (λ (part : ℕ → Bool) (below : Below part whole) (y : ℕ) (m : needed c part y ≡ true).
    ⊎_elim (below y)
    (λ (s : stands (names_used c) y ≡ true).
    or_right (wanted y) (stands all y) (in_first two (names_used k) y (in_second one (names_used c) y s)))
    (comes c part y m))
    (λ (y : ℕ) (m : (needed k wanted y || tests b y) ≡ true).
    ⊎_elim
    (λ (after : needed k wanted y ≡ true).
    ⊎_elim (or_left (wanted y) (stands all y))
    (λ (s : stands (names_used k) y ≡ true). or_right (wanted y) (stands all y) (in_second two (names_used k) y s))
    (comes k wanted y after))
    (λ (guard : tests b y ≡ true).
    or_right (wanted y) (stands all y) (in_first two (names_used k) y (in_first one (names_used c) y (tests_listed b y guard))))
    (or_cases (needed k wanted y) (tests b y) m))
    x h)
comes (Hole h' k) wanted x h = comes k wanted x h

-- what a body brings is its own names
pub body_from : (c : Code) (set : ℕ → Bool) → From (code_names c) (needed c) set
body_from c set more h x m = comes c more x m

-- the set of a loop is closed
pub loop_closed : (b : Condition) (c k : Code) (wanted : ℕ → Bool) → Closed (needed c) (needed (While b c k) wanted)
loop_closed b c k wanted =
    grown_closed (code_names c) (needed c) (λ (y : ℕ). needed k wanted y || tests b y)
    (body_from c (λ (y : ℕ). needed k wanted y || tests b y))

-- what is computed is needed
pub needed_sound : (c : Code) (test : ℕ → Bool) (wanted : NamePredicate) → Within (Picked test) wanted
    → Within (Picked (needed c test)) (Needs c wanted)
needed_sound End test wanted h x m = h x m
needed_sound (Skip k) test wanted h x m = needed_sound k test wanted h x m
needed_sound (Assign y e k) test wanted h x m =
    ⊎_elim
    (λ (kept : (needed k test x && not (x == y)) ≡ true).
    let parts = and_parts (needed k test x) (not (x == y)) kept in
    inl (needed_sound k test wanted h x parts.0, eqb-false x y (not-true (x == y) parts.1)))
    (λ (new : (needed k test y && mentions e x) ≡ true).
    let parts = and_parts (needed k test y) (mentions e x) new in
    inr (needed_sound k test wanted h y parts.0, parts.1))
    (or_cases (needed k test x && not (x == y)) (needed k test y && mentions e x) m)
needed_sound (Write a i e k) test wanted h x m =
    ⊎_elim
    (λ (kept : needed k test x ≡ true). inl (needed_sound k test wanted h x kept))
    (λ (new : (needed k test a && (mentions i x || mentions e x)) ≡ true).
    let parts = and_parts (needed k test a) (mentions i x || mentions e x) new in
    inr (needed_sound k test wanted h a parts.0, or_cases (mentions i x) (mentions e x) parts.1))
    (or_cases (needed k test x) (needed k test a && (mentions i x || mentions e x)) m)
needed_sound (If b c d k) test wanted h x m =
    let after : Within (Picked (needed k test)) (Needs k wanted) = needed_sound k test wanted h in
    ⊎_elim
    (λ (first : needed c (needed k test) x ≡ true). inl (needed_sound c (needed k test) (Needs k wanted) after x first))
    (λ (rest : (needed d (needed k test) x || tests b x) ≡ true).
    ⊎_elim
    (λ (second : needed d (needed k test) x ≡ true). inr (inl (needed_sound d (needed k test) (Needs k wanted) after x second)))
    (λ (guard : tests b x ≡ true). inr (inr guard))
    (or_cases (needed d (needed k test) x) (tests b x) rest))
    (or_cases (needed c (needed k test) x) (needed d (needed k test) x || tests b x) m)
needed_sound (While b c k) test wanted h x m =
    λ (set : ℕ → Bool) (starts : Within (λ (y : ℕ). Needs k wanted y ⊎ IsTrue (tests b y)) (Picked set))
    (stays : Within (Needs c (Picked set)) (Picked set)).
    grown_within (length (code_names c)) (needed c) (λ (y : ℕ). needed k test y || tests b y) set
    (λ (part : ℕ → Bool) (below : Below part set) (y : ℕ) (n : needed c part y ≡ true).
    stays y (needed_sound c part (Picked set) below y n))
    (λ (y : ℕ) (n : (needed k test y || tests b y) ≡ true).
    ⊎_elim
    (λ (after : needed k test y ≡ true). starts y (inl (needed_sound k test wanted h y after)))
    (λ (guard : tests b y ≡ true). starts y (inr guard))
    (or_cases (needed k test y) (tests b y) n))
    x m
needed_sound (Hole h' k) test wanted h x m = needed_sound k test wanted h x m

-- what is needed is computed
pub needed_complete : (c : Code) (test : ℕ → Bool) (wanted : NamePredicate) → Within wanted (Picked test)
    → Within (Needs c wanted) (Picked (needed c test))
needed_complete End test wanted h x m = h x m
needed_complete (Skip k) test wanted h x m = needed_complete k test wanted h x m
needed_complete (Assign y e k) test wanted h x m =
    ⊎_elim
    (λ (kept : Needs k wanted x × (x ≢ y)).
    or_left (needed k test x && not (x == y)) (needed k test y && mentions e x)
    (and_from (needed k test x) (not (x == y)) (needed_complete k test wanted h x kept.0) (not_from_false (x == y) (ne_eqb x y kept.1))))
    (λ (new : Needs k wanted y × IsTrue (mentions e x)).
    or_right (needed k test x && not (x == y)) (needed k test y && mentions e x)
    (and_from (needed k test y) (mentions e x) (needed_complete k test wanted h y new.0) new.1))
    m
needed_complete (Write a i e k) test wanted h x m =
    ⊎_elim
    (λ (kept : Needs k wanted x).
    or_left (needed k test x) (needed k test a && (mentions i x || mentions e x)) (needed_complete k test wanted h x kept))
    (λ (new : Needs k wanted a × (IsTrue (mentions i x) ⊎ IsTrue (mentions e x))).
    or_right (needed k test x) (needed k test a && (mentions i x || mentions e x))
    (and_from (needed k test a) (mentions i x || mentions e x) (needed_complete k test wanted h a new.0)
    (⊎_elim (or_left (mentions i x) (mentions e x)) (or_right (mentions i x) (mentions e x)) new.1)))
    m
needed_complete (If b c d k) test wanted h x m =
    let after : Within (Needs k wanted) (Picked (needed k test)) = needed_complete k test wanted h in
    ⊎_elim
    (λ (first : Needs c (Needs k wanted) x).
    or_left (needed c (needed k test) x) (needed d (needed k test) x || tests b x)
    (needed_complete c (needed k test) (Needs k wanted) after x first))
    (λ (rest : Needs d (Needs k wanted) x ⊎ IsTrue (tests b x)).
    or_right (needed c (needed k test) x) (needed d (needed k test) x || tests b x)
    (⊎_elim
    (λ (second : Needs d (Needs k wanted) x).
    or_left (needed d (needed k test) x) (tests b x) (needed_complete d (needed k test) (Needs k wanted) after x second))
    (or_right (needed d (needed k test) x) (tests b x))
    rest))
    m
needed_complete (While b c k) test wanted h x m =
    let start : ℕ → Bool = λ (y : ℕ). needed k test y || tests b y in
    let set : ℕ → Bool = needed (While b c k) test in
    m set
    (λ (y : ℕ) (f : Needs k wanted y ⊎ IsTrue (tests b y)).
    grown_starts (length (code_names c)) (needed c) start y
    (⊎_elim
    (λ (after : Needs k wanted y). or_left (needed k test y) (tests b y) (needed_complete k test wanted h y after))
    (or_right (needed k test y) (tests b y))
    f))
    (λ (y : ℕ) (n : Needs c (Picked set) y).
    loop_closed b c k test y (needed_complete c set (Picked set) (λ (z : ℕ) (p : IsTrue (set z)). p) y n))
needed_complete (Hole h' k) test wanted h x m = needed_complete k test wanted h x m

-- one number that may pass a test, before others
filter_step : (b : Bool) (p : ℕ → Bool) (y x : ℕ) (kept rest : List ℕ) → p y ≡ b
    → (is_in kept x ≡ true → (p x ≡ true) × (is_in rest x ≡ true)) →
    is_in (cond b (y ∷ kept) kept) x ≡ true → (p x ≡ true) × (is_in (y ∷ rest) x ≡ true)
filter_step true p y x kept rest is more h =
    ⊎_elim
    (λ (here : (x == y) ≡ true). (ap p (eqb-true x y here) ∙ is, or_left (x == y) (is_in rest x) here))
    (λ (after : is_in kept x ≡ true). let m = more after in (m.0, or_right (x == y) (is_in rest x) m.1))
    (or_cases (x == y) (is_in kept x) h)
filter_step false p y x kept rest is more h = let m = more h in (m.0, or_right (x == y) (is_in rest x) m.1)

-- what is left by a filter passes its test
filter_sound : (p : ℕ → Bool) (l : List ℕ) (x : ℕ) → is_in (filter p l) x ≡ true → (p x ≡ true) × (is_in l x ≡ true)
filter_sound p [] x h = absurd cc
filter_sound p (y ∷ rest) x h = filter_step (p y) p y x (filter p rest) rest refl (filter_sound p rest x) h

-- one number that passes a test, at the front or after
keep_step : (b : Bool) (p : ℕ → Bool) (y x : ℕ) (kept rest : List ℕ) → p y ≡ b → p x ≡ true → (is_in rest x ≡ true → is_in kept x ≡ true) →
    is_in (y ∷ rest) x ≡ true → is_in (cond b (y ∷ kept) kept) x ≡ true
keep_step true p y x kept rest is passes more h =
    ⊎_elim (or_left (x == y) (is_in kept x)) (λ (after : is_in rest x ≡ true). or_right (x == y) (is_in kept x) (more after))
    (or_cases (x == y) (is_in rest x) h)
keep_step false p y x kept rest is passes more h =
    ⊎_elim
    (λ (here : (x == y) ≡ true). let both : p x ≡ false = ap p (eqb-true x y here) ∙ is in absurd cc)
    more
    (or_cases (x == y) (is_in rest x) h)

-- what passes the test is left
filter_complete : (p : ℕ → Bool) (l : List ℕ) (x : ℕ) → p x ≡ true → is_in l x ≡ true → is_in (filter p l) x ≡ true
filter_complete p [] x passes h = absurd cc
filter_complete p (y ∷ rest) x passes h = keep_step (p y) p y x (filter p rest) rest refl passes (filter_complete p rest x passes) h

-- the numbers from a on
in_range : (n a x : ℕ) → a ≤ x → x < a + n → is_in (range_with_len a n) x ≡ true
in_range zero a x low high = absurd (omega (arith, low, high))
in_range (suc n) a x low high =
    ⊎_elim
    (λ (here : x ≡ a). or_left (x == a) (is_in (range_with_len (a + 1) n) x) (eq-eqb x a here))
    (λ (other : x ≡ a → ⊥).
    or_right (x == a) (is_in (range_with_len (a + 1) n) x) (in_range n (a + 1) x (omega (arith, other, low)) (omega (arith, high))))
    (cases_eq x a)

-- they rise
range_rises : (a n : ℕ) → IsStrictlyIncreasing (range_with_len a n)
range_rises a n k small =
    let length_is = length-range_with_len a n in
    let here = get_or-range_with_len a n k 0 (omega (arith, small, length_is)) in
    let next = get_or-range_with_len a n (k + 1) 0 (omega (arith, small, length_is)) in
    omega (arith, here, next)

-- a number of a list is at most the greatest
at_most_greatest : (l : List ℕ) (x : ℕ) → is_in l x ≡ true → x ≤ greatest l
at_most_greatest [] x h = absurd cc
at_most_greatest (y ∷ rest) x h =
    ⊎_elim
    (λ (here : (x == y) ≡ true). let same = eqb-true x y here in omega (arith, same))
    (λ (after : is_in rest x ≡ true). let more = at_most_greatest rest x after in omega (arith, more))
    (or_cases (x == y) (is_in rest x) h)

-- the list of inputs has exactly the names that are computed
pub inputs_listed : (c : Code) (w x : ℕ)
    → (is_in (inputs c w) x ≡ true → needed c (λ (y : ℕ). y == w) x ≡ true) ×
    (needed c (λ (y : ℕ). y == w) x ≡ true → is_in (inputs c w) x ≡ true)
unfolding inputs
inputs_listed c w x =
    let only : ℕ → Bool = λ (y : ℕ). y == w in
    let bound = suc (greatest (w ∷ code_names c)) in (
      λ (h : is_in (inputs c w) x ≡ true). (filter_sound (needed c only) (range_with_len 0 bound) x h).0,
      λ (h : needed c only x ≡ true).
          let small : x ≤ greatest (w ∷ code_names c) = at_most_greatest (w ∷ code_names c) x
          (⊎_elim (or_left (x == w) (is_in (code_names c) x)) (or_right (x == w) (is_in (code_names c) x)) (comes c only x h)) in
          filter_complete (needed c only) (range_with_len 0 bound) x h (in_range bound 0 x (omega arith) (omega (arith, small))),
    )

-- it rises, and has exactly the names that are needed
pub inputs_exact : (c : Code) (w : ℕ)
    → IsStrictlyIncreasing (inputs c w) × ((x : ℕ) → IsTrue (is_in (inputs c w) x) ↔ Needs c (λ (y : ℕ). y ≡ w) x)
unfolding inputs
inputs_exact c w = (
  IsStrictlyIncreasing-filter (needed c (λ (x : ℕ). x == w)) (range_with_len 0 (suc (greatest (w ∷ code_names c))))
      (range_rises 0 (suc (greatest (w ∷ code_names c)))),
  λ (x : ℕ). (
    λ (h : IsTrue (is_in (inputs c w) x)).
        needed_sound c (λ (y : ℕ). y == w) (λ (y : ℕ). y ≡ w) (λ (y : ℕ) (m : (y == w) ≡ true). eqb-true y w m) x
        ((inputs_listed c w x).0 h),
    λ (h : Needs c (λ (y : ℕ). y ≡ w) x).
        (inputs_listed c w x).1 (needed_complete c (λ (y : ℕ). y == w) (λ (y : ℕ). y ≡ w) (λ (y : ℕ) (m : y ≡ w). eq-eqb y w m) x h),
  ),
)
