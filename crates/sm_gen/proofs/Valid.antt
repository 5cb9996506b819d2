-- Of a task that is made up, no condition on tasks fails.
use Rattle.sm_gen.proofs.Imports.{◌≡◌, ℕ, zero, suc, ◌+◌, ◌-◌, ◌*◌, ◌<◌, ◌≤◌, ◌==◌, Bool, true, false, not, ◌||◌, if◌then◌else◌, Option, Some, None, List, [], ◌∷◌, length, map, nat_lt, refl, ap, ap₂, ◌∙◌, arith, eq-eqb, nat_tests, length-map-range_with_len, range_with_len, AllByRecursion, Copy, O, A, B, M, Expression, Code, End, Assign, append, sort_of, Sort, Num, Arr, with_sort, has_edits, edit_of, counted, holes, value_of, filling_of, generated}
use Rattle.std.specs.Option.{option_or}
use Rattle.std.specs.Prelude.{option_map}
use Rattle.sm_syntax.specs.claim.Fill.{Fillings, filling, fill}
use Rattle.sm_syntax.specs.text.Conditions.{Refusal, DoubleHole, HoleInFilling, UnknownHole, MissingFilling, DoubleName, TooMany, TooDeep, Section, Shared, ListOf, is_in, first_repeated, first_outside, first_of_all, at_hole, holes_of}
use Rattle.sm_syntax.specs.text.Conditions.{filled_holes, holes_inside, double_hole, hole_in_filling, unknown_hole, missing_filling, expression_nodes, expression_depth, code_nodes, code_depth, sort_refusal, first_sort_fault, output_refusal}
use Rattle.sm_syntax.specs.text.Conditions.{first_output_fault, over, size_fault, double_name, program_fault, ill_formed, ill_assumed, first_refusal}
use Rattle.sm_syntax.specs.text.Sorts.{Sorts, IsAsDeclared, IsWellSorted, IsWellSortedExpression}
use Rattle.sm_syntax.specs.text.Uses.{names_used}
use Rattle.sm_syntax.proofs.EachUse.{well_sorted_is_all}
use Rattle.sm_syntax.proofs.Refusals.{none_of_lists}

-- where each of these is no refusal, there is none
none_of_all : (rs : List (Option Refusal)) → AllByRecursion (λ (r : Option Refusal). r ≡ None) rs → first_of_all rs ≡ None
none_of_all [] h = refl
none_of_all (r ∷ rs) h = ap (λ (o : Option Refusal). option_or o (first_of_all rs)) h.0 ∙ none_of_all rs h.1

neither : {a b : Option Refusal} → a ≡ None → b ≡ None → option_or a b ≡ None
neither {b = b} first second = ap (λ (o : Option Refusal). option_or o b) first ∙ second

-- no hole is no refusal
no_hole : (refusal : Section → ℕ → Refusal) (section : Section) (hole : Option ℕ) → hole ≡ None → at_hole refusal section hole ≡ None
no_hole refusal section hole h = ap (at_hole refusal section) h

-- numbers that are counted don't repeat
unlike : (a x : ℕ) → a < x → (x == a) ≡ false
unlike a x later = grind (arith, nat_tests)

not_in : (a x : ℕ) (seen : List ℕ) → a < x → is_in seen x ≡ false → is_in (a ∷ seen) x ≡ false
not_in a x seen later new = ap₂ (λ (p q : Bool). p || q) (unlike a x later) new

repeats_not : (a k : ℕ) (seen : List ℕ) → ((x : ℕ) → a ≤ x → is_in seen x ≡ false) → first_repeated seen (range_with_len a k) ≡ None
repeats_not a zero seen new = refl
repeats_not a (suc k) seen new =
    ap (λ (b : Bool). if b then Some a else first_repeated (a ∷ seen) (range_with_len (a + 1) k)) (new a (omega arith))
    ∙ repeats_not (a + 1) k (a ∷ seen) (λ x from. not_in a x seen (omega (arith, from)) (new x (omega (arith, from))))

none_seen : (a x : ℕ) → a ≤ x → is_in [] x ≡ false
none_seen a x from = refl

-- no number of a list stands outside others that have them all
none_outside : (others list : List ℕ) → ((x : ℕ) → is_in list x ≡ true → is_in others x ≡ true) → first_outside others list ≡ None
none_outside others [] within = refl
none_outside others (x ∷ list) within =
    let here : is_in (x ∷ list) x ≡ true = ap (λ (b : Bool). b || is_in list x) (eq-eqb x x refl) in
    ap (λ (b : Bool). if not b then Some x else first_outside others list) (within x here)
    ∙ none_outside others list (λ y inside. within y (ap (λ (b : Bool). y == x || b) inside ∙ or_true (y == x)))
  where
    or_true : (b : Bool) → (b || true) ≡ true
    or_true true = refl
    or_true false = refl

-- the holes of the shared program
holes_are : (hs : List ℕ) → holes_of (holes hs) ≡ hs
holes_are [] = refl
holes_are (h ∷ hs) = ap (λ (l : List ℕ). h ∷ l) (holes_are hs)

-- the fillings of holes
abbrev pub fillings : ℕ → Copy → List ℕ → Fillings
fillings seed c hs = map (filling_of c) (map (edit_of seed) hs)

filled_are : (seed : ℕ) (c : Copy) (hs : List ℕ) → filled_holes (fillings seed c hs) ≡ hs
filled_are seed c [] = refl
filled_are seed c (h ∷ hs) = ap (λ (l : List ℕ). h ∷ l) (filled_are seed c hs)

none_inside : (seed : ℕ) (c : Copy) (hs : List ℕ) → holes_inside (fillings seed c hs) ≡ []
none_inside seed c [] = refl
none_inside seed c (h ∷ hs) = none_inside seed c hs

-- what a copy's value is
abbrev pub value : ℕ → Copy → ℕ → Expression
value seed c h = value_of (has_edits (edit_of seed h).editor c) (edit_of seed h).added

-- the names are set one after the other
abbrev pub settings : ℕ → Copy → List ℕ → Code
settings seed c [] = End
settings seed c (h ∷ hs) = Assign (h + 1) (value seed c h) (settings seed c hs)

-- the filling of a hole
found : (seed : ℕ) (c : Copy) (a k i n : ℕ) → a + i ≡ n → i < k →
    filling (fillings seed c (range_with_len a k)) n ≡ Assign (n + 1) (value seed c n) End
found seed c a zero i n at here = absurd (omega (arith, here))
found seed c a (suc k) zero n at here =
    let e : a ≡ n = omega (arith, at) in
    ap (λ (b : Bool). if b then Assign (a + 1) (value seed c a) End else filling (fillings seed c (range_with_len (a + 1) k)) n)
    (eq-eqb a n e)
    ∙ ap (λ (h : ℕ). Assign (h + 1) (value seed c h) End) e
found seed c a (suc k) (suc i) n at here =
    let other : (a == n) ≡ false = grind (arith, nat_tests) in
    ap (λ (b : Bool). if b then Assign (a + 1) (value seed c a) End else filling (fillings seed c (range_with_len (a + 1) k)) n) other
    ∙ found seed c (a + 1) k i n (omega (arith, at)) (omega (arith, here))

-- the holes, filled
filled : (seed : ℕ) (c : Copy) (fs : Fillings) (b j : ℕ) →
    ((m : ℕ) → b ≤ m → m < b + j → filling fs m ≡ Assign (m + 1) (value seed c m) End) →
    fill fs (holes (range_with_len b j)) ≡ settings seed c (range_with_len b j)
filled seed c fs b zero has = refl
filled seed c fs b (suc j) has =
    ap (λ (f : Code). append f (fill fs (holes (range_with_len (b + 1) j)))) (has b (omega arith) (omega arith))
    ∙ ap (Assign (b + 1) (value seed c b))
    (filled seed c fs (b + 1) j (λ m low high. has m (omega (arith, low)) (omega (arith, high))))

pub program_is : (seed size : ℕ) (c : Copy) →
    fill (fillings seed c (range_with_len 1 size)) (counted (holes (range_with_len 1 size)))
    ≡ counted (settings seed c (range_with_len 1 size))
program_is seed size c =
    ap counted
    (filled seed c (fillings seed c (range_with_len 1 size)) 1 size
    (λ m low high. found seed c 1 size (m - 1) m (omega (arith, low)) (omega (arith, high))))

-- each name is declared a number
declared_so : (a k i n : ℕ) → a + i ≡ n → i < k → sort_of (with_sort Num (range_with_len a k)) n ≡ Some Num
declared_so a zero i n at here = absurd (omega (arith, here))
declared_so a (suc k) zero n at here =
    let e : a ≡ n = omega (arith, at) in
    ap (λ (b : Bool). if b then Some Num else sort_of (with_sort Num (range_with_len (a + 1) k)) n) (eq-eqb a n e)
declared_so a (suc k) (suc i) n at here =
    let other : (a == n) ≡ false = grind (arith, nat_tests) in
    ap (λ (b : Bool). if b then Some Num else sort_of (with_sort Num (range_with_len (a + 1) k)) n) other
    ∙ declared_so (a + 1) k i n (omega (arith, at)) (omega (arith, here))

-- so the code is well sorted
value_sorted : (sorts : Sorts) (b : Bool) (added : ℕ) → sorts 1 ≡ Some Num → IsWellSortedExpression sorts (value_of b added)
value_sorted sorts false added limit = limit
value_sorted sorts true added limit = (limit, tt)

settings_sorted : (sorts : Sorts) (seed : ℕ) (c : Copy) (a k : ℕ) → sorts 1 ≡ Some Num →
    ((x : ℕ) → x < a + k + 1 → sorts x ≡ Some Num) → IsWellSorted sorts (settings seed c (range_with_len a k))
settings_sorted sorts seed c a zero limit all = tt
settings_sorted sorts seed c a (suc k) limit all = (
  all (a + 1) (omega arith),
  value_sorted sorts (has_edits (edit_of seed a).editor c) (edit_of seed a).added limit,
  settings_sorted sorts seed c (a + 1) k limit (λ x few. all x (omega (arith, few))),
)

code_sorted : (sorts : Sorts) (seed size : ℕ) (c : Copy) → ((x : ℕ) → x < size + 2 → sorts x ≡ Some Num) →
    IsWellSorted sorts (counted (settings seed c (range_with_len 1 size)))
code_sorted sorts seed size c all =
    let i = all 0 (omega arith) in
    let n = all 1 (omega arith) in
    (i, tt, ((i, n), (i, (i, tt), tt), settings_sorted sorts seed c 1 size n (λ x few. all x (omega (arith, few)))))

-- no name stands with another sort
as_declared : (o : Option Sort) (sort : Sort) (x : ℕ) → o ≡ Some sort → sort_refusal o sort x ≡ None
as_declared o sort x e = ap (λ (p : Option Sort). sort_refusal p sort x) e ∙ same sort
  where
    same : (sort : Sort) → sort_refusal (Some sort) sort x ≡ None
    same Num = refl
    same Arr = refl

none_unsorted : (sorts : Sorts) (uses : List (ℕ × Sort)) → AllByRecursion (λ (u : ℕ × Sort). IsAsDeclared sorts u.0 u.1) uses →
    first_sort_fault sorts uses ≡ None
unfolding first_sort_fault
none_unsorted sorts [] all = refl
none_unsorted sorts (u ∷ uses) all =
    ap (λ (o : Option Refusal). option_or o (first_sort_fault sorts uses)) (as_declared (sorts u.0) u.1 u.0 all.0)
    ∙ none_unsorted sorts uses all.1

-- no output stands twice, and each is declared
outputs_right : (sorts : Sorts) (a k : ℕ) (seen : List ℕ) → ((x : ℕ) → a ≤ x → is_in seen x ≡ false) →
    ((x : ℕ) → x < a + k → sorts x ≡ Some Num) → first_output_fault sorts seen (range_with_len a k) ≡ None
outputs_right sorts a zero seen new all = refl
outputs_right sorts a (suc k) seen new all =
    ap₂ (λ (o : Option Sort) (b : Bool). option_or (output_refusal o b a) (first_output_fault sorts (a ∷ seen) (range_with_len (a + 1) k)))
    (all a (omega arith)) (new a (omega arith))
    ∙ outputs_right sorts (a + 1) k (a ∷ seen) (λ x from. not_in a x seen (omega (arith, from)) (new x (omega (arith, from))))
    (λ x few. all x (omega (arith, few)))

-- sizes
value_nodes : (b : Bool) (added : ℕ) → expression_nodes (value_of b added) ≤ 3
value_nodes false added = omega arith
value_nodes true added = omega arith

value_depth : (b : Bool) (added : ℕ) → expression_depth (value_of b added) ≤ 2
value_depth false added = omega arith
value_depth true added = omega arith

settings_nodes : (seed : ℕ) (c : Copy) (a k : ℕ) → code_nodes (settings seed c (range_with_len a k)) ≤ 4 * k
settings_nodes seed c a zero = omega arith
settings_nodes seed c a (suc k) =
    let here = value_nodes (has_edits (edit_of seed a).editor c) (edit_of seed a).added in
    omega (arith, here, settings_nodes seed c (a + 1) k)

settings_depth : (seed : ℕ) (c : Copy) (a k : ℕ) → code_depth (settings seed c (range_with_len a k)) ≤ 3
settings_depth seed c a zero = omega arith
settings_depth seed c a (suc k) =
    let here = value_depth (has_edits (edit_of seed a).editor c) (edit_of seed a).added in
    omega (arith, here, settings_depth seed c (a + 1) k)

within : (limit n : ℕ) (r : Refusal) → n ≤ limit → over limit n r ≡ None
within limit n r small =
    let no : nat_lt limit n ≡ false = grind (arith, nat_tests) in
    ap (λ (b : Bool). if b then Some r else None) no

size_right : (nodes depth : ℕ) → nodes ≤ 20000 → depth ≤ 64 → size_fault nodes depth ≡ None
unfolding size_fault
size_right nodes depth few flat =
    none_of_all (over 20000 nodes TooMany ∷ over 64 depth TooDeep ∷ []) (within 20000 nodes TooMany few, (within 64 depth TooDeep flat, tt))

code_small : (seed size : ℕ) (c : Copy) → size ≤ 190 → code_nodes (counted (settings seed c (range_with_len 1 size))) ≤ 20000
code_small seed size c small = omega (arith, settings_nodes seed c 1 size, small)

code_flat : (seed size : ℕ) (c : Copy) → code_depth (counted (settings seed c (range_with_len 1 size))) ≤ 64
code_flat seed size c = omega (arith, settings_depth seed c 1 size)

-- the declared names don't repeat
numbers_are : (xs : List ℕ) → map (λ (d : ℕ × Sort). d.0) (with_sort Num xs) ≡ xs
numbers_are [] = refl
numbers_are (x ∷ xs) = ap (λ (l : List ℕ). x ∷ l) (numbers_are xs)

declared_once : (n : ℕ) → double_name (with_sort Num (range_with_len 0 n)) ≡ None
declared_once n =
    ap (option_map DoubleName)
    (ap (first_repeated []) (numbers_are (range_with_len 0 n)) ∙ repeats_not 0 n [] (none_seen 0))

-- each program is well formed
program_right : (seed size : ℕ) (c : Copy) → size ≤ 190 →
    program_fault (with_sort Num (range_with_len 0 (size + 2))) (range_with_len 2 size)
    (counted (settings seed c (range_with_len 1 size))) ≡ None
unfolding program_fault
program_right seed size c small =
    let declared = with_sort Num (range_with_len 0 (size + 2)) in
    let sorts = sort_of declared in
    let code = counted (settings seed c (range_with_len 1 size)) in
    let all : (x : ℕ) → x < size + 2 → sorts x ≡ Some Num = λ x few. declared_so 0 (size + 2) x x (omega arith) few in
    let many : length declared ≡ size + 2 = length-map (size + 2) in
    none_of_all (
    double_name declared
    ∷ first_output_fault sorts [] (range_with_len 2 size)
    ∷ first_sort_fault sorts (names_used code)
    ∷ over 200 (length declared) TooMany
    ∷ size_fault (code_nodes code) (code_depth code)
    ∷ []) (
      declared_once (size + 2),
      (
        outputs_right sorts 2 size [] (none_seen 2) (λ x few. all x (omega (arith, few))),
        (
          none_unsorted sorts (names_used code) ((well_sorted_is_all sorts code).0 (code_sorted sorts seed size c all)),
          (
            within 200 (length declared) TooMany (omega (arith, many, small)),
            (size_right (code_nodes code) (code_depth code) (code_small seed size c small) (code_flat seed size c), tt),
          ),
        ),
      ),
    )
  where
    length-map : (n : ℕ) → length (with_sort Num (range_with_len 0 n)) ≡ n
    length-map n = length-map-range_with_len (λ (x : ℕ). (x, Num)) 0 n

-- the six conditions
pub valid : (seed size : ℕ) → size ≤ 190 → first_refusal (generated seed size) ≡ None
unfolding first_refusal double_hole hole_in_filling unknown_hole missing_filling ill_formed ill_assumed
valid seed size small =
    let t = generated seed size in
    let hs = range_with_len 1 size in
    let once : first_repeated [] hs ≡ None = repeats_not 1 size [] (none_seen 1) in
    let all_in : first_outside hs hs ≡ None = none_outside hs hs (λ x inside. inside) in
    let shared : holes_of t.shared ≡ hs = holes_are hs in
    let of_list : (c : Copy) → filled_holes (t.fillings c) ≡ hs = λ c. filled_are seed c hs in
    none_of_all (
    double_hole t
    ∷ hole_in_filling t
    ∷ unknown_hole t
    ∷ missing_filling t
    ∷ ill_formed t
    ∷ ill_assumed t.declared t.assumed
    ∷ []) (
      neither (no_hole DoubleHole Shared _ (ap (first_repeated []) shared ∙ once))
          (none_of_lists _ (λ c. no_hole DoubleHole (ListOf c) _ (ap (first_repeated []) (of_list c) ∙ once))),
      (
        none_of_lists _ (λ c. no_hole HoleInFilling (ListOf c) _ (ap (first_outside []) (none_inside seed c hs))),
        (
          none_of_lists _ (λ c. no_hole UnknownHole (ListOf c) _ (ap₂ first_outside shared (of_list c) ∙ all_in)),
          (
            none_of_lists _ (λ c. no_hole MissingFilling (ListOf c) _ (ap₂ first_outside (of_list c) shared ∙ all_in)),
            (
              none_of_lists _ (λ c. ap (program_fault t.declared t.outputs) (program_is seed size c) ∙ program_right seed size c small),
              (refl, tt),
            ),
          ),
        ),
      ),
    )
