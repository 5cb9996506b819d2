-- Formulas taken apart level by level stand in the order of a queue.
use Rattle.sm_list.proofs.Imports.{◌≡◌, ℕ, zero, suc, ◌+◌, ◌<◌, ◌≤◌, List, [], ◌∷◌, ◌++◌, map, length, take, drop, get_or, refl, sym, ap, ◌∙◌, arith, append-nil, append_assoc, map-append, length-append, Sorts, Tree, Assertion, NumberedFormula, assertion_in, IsFormulaWithin, greatest_of, parts_of, parts_of_all, depth_of, taken_apart, with_parts, numbered_parts, assertions_in, AreFormulasWithin}
use Rattle.sm_term.specs.Assertions.{Yes, No, Eq, Ne, Le, Lt, And, Or}
use Rattle.sm_term.specs.Formulas as number

-- conjunctions stand in one another no deeper than so
abbrev pub AreShallow : ℕ → List Assertion → Type 0
AreShallow n [] = Unit {0}
AreShallow n (f ∷ fs) = (depth_of f ≤ n) × AreShallow n fs

pub shallow-append : (n : ℕ) (fs gs : List Assertion) → AreShallow n fs → AreShallow n gs → AreShallow n (fs ++ gs)
shallow-append n [] gs h k = k
shallow-append n (f ∷ fs) gs h k = (h.0, shallow-append n fs gs h.1 k)

pub shallow-left : (n : ℕ) (fs gs : List Assertion) → AreShallow n (fs ++ gs) → AreShallow n fs
shallow-left n [] gs h = tt
shallow-left n (f ∷ fs) gs h = (h.0, shallow-left n fs gs h.1)

-- parts stand less deep
pub shallow_part : (n : ℕ) (f : Assertion) → depth_of f ≤ suc n → AreShallow n (parts_of f)
shallow_part n (And p q) h = (omega arith, (omega arith, tt))
shallow_part n (Or p q) h = tt
shallow_part n Yes h = tt
shallow_part n No h = tt
shallow_part n (Eq sort t u) h = tt
shallow_part n (Ne sort t u) h = tt
shallow_part n (Le t u) h = tt
shallow_part n (Lt t u) h = tt

pub shallow_parts : (n : ℕ) (fs : List Assertion) → AreShallow (suc n) fs → AreShallow n (parts_of_all fs)
shallow_parts n [] h = tt
shallow_parts n (f ∷ fs) h =
    shallow-append n (parts_of f) (parts_of_all fs) (shallow_part n f h.0) (shallow_parts n fs h.1)

-- what has no depth has no parts
flat_part : (f : Assertion) → depth_of f ≤ 0 → parts_of f ≡ []
flat_part (And p q) h = absurd (omega arith)
flat_part (Or p q) h = refl
flat_part Yes h = refl
flat_part No h = refl
flat_part (Eq sort t u) h = refl
flat_part (Ne sort t u) h = refl
flat_part (Le t u) h = refl
flat_part (Lt t u) h = refl

pub flat_parts : (fs : List Assertion) → AreShallow 0 fs → parts_of_all fs ≡ []
flat_parts [] h = refl
flat_parts (f ∷ fs) h = ap (λ (gs : List Assertion). gs ++ parts_of_all fs) (flat_part f h.0) ∙ flat_parts fs h.1

-- the greatest depth bounds each
pub shallow_below : (n : ℕ) (fs : List Assertion) → greatest_of (map depth_of fs) ≤ n → AreShallow n fs
shallow_below n [] h = tt
shallow_below n (f ∷ fs) h = (omega arith, shallow_below n fs (omega arith))

-- the parts of two lists
parts-append : (fs gs : List Assertion) → parts_of_all (fs ++ gs) ≡ parts_of_all fs ++ parts_of_all gs
parts-append [] gs = refl
parts-append (f ∷ fs) gs = ap (λ (hs : List Assertion). parts_of f ++ hs) (parts-append fs gs) ∙ sym (append_assoc (parts_of f) (parts_of_all fs) (parts_of_all gs))

-- none of none
apart_none : (n : ℕ) → taken_apart n [] ≡ []
apart_none zero = refl
apart_none (suc n) = apart_none n

-- more rounds than the depth change nothing
pub apart_stable : (m n : ℕ) (fs : List Assertion) → AreShallow m fs → AreShallow n fs → taken_apart m fs ≡ taken_apart n fs
apart_stable zero zero fs h k = refl
apart_stable zero (suc n) fs h k =
    sym (append-nil fs) ∙ ap (λ (gs : List Assertion). fs ++ gs) (sym (apart_none n) ∙ ap (taken_apart n) (sym (flat_parts fs h)))
apart_stable (suc m) zero fs h k =
    ap (λ (gs : List Assertion). fs ++ gs) (ap (taken_apart m) (flat_parts fs k) ∙ apart_none m) ∙ append-nil fs
apart_stable (suc m) (suc n) fs h k =
    ap (λ (gs : List Assertion). fs ++ gs) (apart_stable m n (parts_of_all fs) (shallow_parts m fs h) (shallow_parts n fs k))

-- the first formulas can be taken apart before the others
pub apart_first : (n : ℕ) (fs gs : List Assertion) → AreShallow n fs → AreShallow n gs →
    taken_apart n (fs ++ gs) ≡ fs ++ taken_apart n (gs ++ parts_of_all fs)
apart_first zero fs gs h k =
    ap (λ (hs : List Assertion). fs ++ hs) (sym (append-nil gs) ∙ ap (λ (hs : List Assertion). gs ++ hs) (sym (flat_parts fs h)))
apart_first (suc n) fs gs h k =
    let first = parts_of_all fs in
    let second = parts_of_all gs in
    let later = taken_apart n (second ++ parts_of_all first) in
    let one : taken_apart n (parts_of_all (fs ++ gs)) ≡ first ++ later =
    ap (taken_apart n) (parts-append fs gs) ∙ apart_first n first second (shallow_parts n fs h) (shallow_parts n gs k) in
    let two : taken_apart n (parts_of_all (gs ++ first)) ≡ later = ap (taken_apart n) (parts-append gs first) in
    ap (λ (hs : List Assertion). (fs ++ gs) ++ hs) one
    ∙ append_assoc fs gs (first ++ later)
    ∙ ap (λ (hs : List Assertion). fs ++ hs) (sym (append_assoc gs first later) ∙ ap (λ (hs : List Assertion). (gs ++ first) ++ hs) (sym two))

-- a formula stands first, its parts behind the others
pub with_parts-next : (f : Assertion) (fs : List Assertion) → with_parts (f ∷ fs) ≡ f ∷ with_parts (fs ++ parts_of f)
with_parts-next f fs =
    let n = greatest_of (map depth_of (f ∷ fs)) in
    let all = shallow_below n (f ∷ fs) (omega arith) in
    let parts : parts_of_all (f ∷ []) ≡ parts_of f = append-nil (parts_of f) in
    let more : AreShallow n (fs ++ parts_of f) = shallow-append n fs (parts_of f) all.1 (later n (parts_of f) (part n f all.0)) in
    let least = shallow_below (greatest_of (map depth_of (fs ++ parts_of f))) (fs ++ parts_of f) (omega arith) in
    apart_first n (f ∷ []) fs (all.0, tt) all.1
    ∙ ap (λ (hs : List Assertion). f ∷ taken_apart n (fs ++ hs)) parts
    ∙ ap (λ (hs : List Assertion). f ∷ hs) (apart_stable n (greatest_of (map depth_of (fs ++ parts_of f))) (fs ++ parts_of f) more least)
  where
    later : (n : ℕ) (fs : List Assertion) → AreShallow n fs → AreShallow n fs
    later n fs h = h

    part : (n : ℕ) (f : Assertion) → depth_of f ≤ n → AreShallow n (parts_of f)
    part n (And p q) h = (omega arith, (omega arith, tt))
    part n (Or p q) h = tt
    part n Yes h = tt
    part n No h = tt
    part n (Eq sort t u) h = tt
    part n (Ne sort t u) h = tt
    part n (Le t u) h = tt
    part n (Lt t u) h = tt

-- the parts over numbers are those over trees
pub parts_stand : (sorts : Sorts) (trees : List Tree) (f : NumberedFormula) →
    assertions_in sorts trees (numbered_parts f) ≡ parts_of (assertion_in sorts trees f)
parts_stand sorts trees number.Yes = refl
parts_stand sorts trees number.No = refl
parts_stand sorts trees (number.Eq t u) = refl
parts_stand sorts trees (number.Ne t u) = refl
parts_stand sorts trees (number.Le t u) = refl
parts_stand sorts trees (number.Lt t u) = refl
parts_stand sorts trees (number.And p q) = refl
parts_stand sorts trees (number.Or p q) = refl

-- formulas up to a place, behind them the others with all their parts
abbrev pub queue_from : ℕ → List Assertion → List Assertion
queue_from n fs = take n fs ++ with_parts (drop n fs)

-- where the parts of the formula at a place are put last, the queue goes on from the next place
queue_next : (sorts : Sorts) (trees : List Tree) (fs : List NumberedFormula) (n : ℕ) → n < length fs →
    queue_from (suc n) (assertions_in sorts trees (fs ++ numbered_parts (get_or fs n number.Yes))) ≡ queue_from n (assertions_in sorts trees fs)
queue_next sorts trees [] n h = absurd (omega arith)
queue_next sorts trees (f ∷ fs) zero h =
    let all = assertions_in sorts trees fs in
    let first = assertion_in sorts trees f in
    let same : assertions_in sorts trees (fs ++ numbered_parts f) ≡ all ++ parts_of first =
    map-append (assertion_in sorts trees) fs (numbered_parts f) ∙ ap (λ (gs : List Assertion). all ++ gs) (parts_stand sorts trees f) in
    ap (λ (gs : List Assertion). first ∷ with_parts gs) same ∙ sym (with_parts-next first all)
queue_next sorts trees (f ∷ fs) (suc n) h =
    ap (λ (gs : List Assertion). assertion_in sorts trees f ∷ gs) (queue_next sorts trees fs n (omega arith))

pub queue_step : (sorts : Sorts) (trees : List Tree) (fs : List NumberedFormula) (n : ℕ) → n < length fs →
    queue_from (n + 1) (assertions_in sorts trees (fs ++ numbered_parts (get_or fs n number.Yes))) ≡ queue_from n (assertions_in sorts trees fs)
queue_step sorts trees fs n h =
    let next : n + 1 ≡ suc n = omega arith in rw next (queue_next sorts trees fs n h)

-- past the last place nothing is left to do
pub queue_end : (fs : List Assertion) (n : ℕ) → length fs ≤ n → queue_from n fs ≡ fs
queue_end [] zero h = refl
queue_end [] (suc n) h = refl
queue_end (f ∷ fs) zero h = absurd (omega arith)
queue_end (f ∷ fs) (suc n) h = ap (λ (gs : List Assertion). f ∷ gs) (queue_end fs n (omega arith))

-- the queue of one more formula, from its place on
pub queue_last : (fs : List Assertion) (f : Assertion) → queue_from (length fs) (fs ++ f ∷ []) ≡ fs ++ with_parts (f ∷ [])
queue_last [] f = refl
queue_last (g ∷ fs) f = ap (λ (gs : List Assertion). g ∷ gs) (queue_last fs f)

-- how many conjunctions there are to take apart, and formulas at which one ends
abbrev pub weight_of : NumberedFormula → ℕ
weight_of number.Yes = 1
weight_of number.No = 1
weight_of (number.Eq t u) = 1
weight_of (number.Ne t u) = 1
weight_of (number.Le t u) = 1
weight_of (number.Lt t u) = 1
weight_of (number.And p q) = 1 + (weight_of p + weight_of q)
weight_of (number.Or p q) = 1

abbrev pub weight_of_all : List NumberedFormula → ℕ
weight_of_all [] = 0
weight_of_all (f ∷ fs) = weight_of f + weight_of_all fs

weight-append : (fs gs : List NumberedFormula) → weight_of_all (fs ++ gs) ≡ weight_of_all fs + weight_of_all gs
weight-append [] gs = omega arith
weight-append (f ∷ fs) gs = let rest = weight-append fs gs in omega arith

-- parts weigh less
lighter : (f : NumberedFormula) → weight_of_all (numbered_parts f) < weight_of f
lighter number.Yes = omega arith
lighter number.No = omega arith
lighter (number.Eq t u) = omega arith
lighter (number.Ne t u) = omega arith
lighter (number.Le t u) = omega arith
lighter (number.Lt t u) = omega arith
lighter (number.And p q) = omega arith
lighter (number.Or p q) = omega arith

weight_next : (fs : List NumberedFormula) (n : ℕ) → n < length fs →
    weight_of_all (drop (suc n) (fs ++ numbered_parts (get_or fs n number.Yes))) < weight_of_all (drop n fs)
weight_next [] n h = absurd (omega arith)
weight_next (f ∷ fs) zero h = let both = weight-append fs (numbered_parts f) in let less = lighter f in omega arith
weight_next (f ∷ fs) (suc n) h = weight_next fs n (omega arith)

pub weight_step : (fs : List NumberedFormula) (n : ℕ) → n < length fs →
    weight_of_all (drop (n + 1) (fs ++ numbered_parts (get_or fs n number.Yes))) < weight_of_all (drop n fs)
weight_step fs n h = let next : n + 1 ≡ suc n = omega arith in rw next (weight_next fs n h)

-- formulas of a table, together
pub within-append : (count : ℕ) (fs gs : List NumberedFormula) → AreFormulasWithin count fs → AreFormulasWithin count gs → AreFormulasWithin count (fs ++ gs)
within-append count [] gs h k = k
within-append count (f ∷ fs) gs h k = (h.0, within-append count fs gs h.1 k)

within_parts : (count : ℕ) (f : NumberedFormula) → IsFormulaWithin count f → AreFormulasWithin count (numbered_parts f)
within_parts count (number.And p q) h = (h.0, (h.1, tt))
within_parts count number.Yes h = tt
within_parts count number.No h = tt
within_parts count (number.Eq t u) h = tt
within_parts count (number.Ne t u) h = tt
within_parts count (number.Le t u) h = tt
within_parts count (number.Lt t u) h = tt
within_parts count (number.Or p q) h = tt

pub within_at : (count : ℕ) (fs : List NumberedFormula) (n : ℕ) → AreFormulasWithin count fs → IsFormulaWithin count (get_or fs n number.Yes)
within_at count [] n h = tt
within_at count (f ∷ fs) zero h = h.0
within_at count (f ∷ fs) (suc n) h = within_at count fs n h.1

pub within_step : (count : ℕ) (fs : List NumberedFormula) (n : ℕ) → AreFormulasWithin count fs →
    AreFormulasWithin count (fs ++ numbered_parts (get_or fs n number.Yes))
within_step count fs n h =
    let f = get_or fs n number.Yes in within-append count fs (numbered_parts f) h (within_parts count f (within_at count fs n h))

-- one more place
pub longer : (fs : List NumberedFormula) (n : ℕ) (f : NumberedFormula) → n < length fs → n + 1 ≤ length (fs ++ numbered_parts f)
longer fs n f h = let both = length-append fs (numbered_parts f) in omega arith
