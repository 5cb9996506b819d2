-- Marks of templates: one more, those that stay, and the numbers that they keep.
use Rattle.sm_houdini.proofs.Imports.{◌≡◌, ℕ, suc, ◌+◌, ◌<◌, ◌≤◌, Bool, true, false, ◌&&◌, if◌then◌else◌, List, [], ◌∷◌, ◌++◌, length, take, get_or, refl, sym, ap, ◌∙◌, arith, Vec, Global, length-take-le, map-append, take_more, Choice, marked, all_marked, still_marked, rows, Marked, numbers_kept, sites_kept}
use Rattle.std.proofs.Common.{map}
use Rattle.sm_houdini.specs.Marks.{numbers_of}
use Rattle.sm_houdini.proofs.LoopLemmas.{taken}

-- one more at the end
pub marked_more : (passes : ℕ → Bool) (i : ℕ) (ns : List ℕ) (n : ℕ) →
    marked passes i (ns ++ n ∷ []) ≡ marked passes i ns ++ record { number = n; holds = passes (i + length ns) } ∷ []
marked_more passes i [] n =
    let e : i ≡ i + 0 = omega arith in ap (λ (j : ℕ). record { number = n; holds = passes j } ∷ []) e
marked_more passes i (m ∷ ns) n =
    let e : suc i + length ns ≡ i + suc (length ns) = omega arith in
    ap (λ (ms : List Marked). record { number = m; holds = passes i } ∷ ms)
    (marked_more passes (suc i) ns n
    ∙ ap (λ (j : ℕ). marked passes (suc i) ns ++ record { number = n; holds = passes j } ∷ []) e)

pub all_marked_more : (passes : ℕ → ℕ → Bool) (s : ℕ) (choice : Choice) (ns : List ℕ) →
    all_marked passes s (choice ++ ns ∷ []) ≡ all_marked passes s choice ++ marked (passes (s + length choice)) 0 ns ∷ []
all_marked_more passes s [] ns =
    let e : s ≡ s + 0 = omega arith in ap (λ (j : ℕ). marked (passes j) 0 ns ∷ []) e
all_marked_more passes s (ms ∷ choice) ns =
    let e : suc s + length choice ≡ s + suc (length choice) = omega arith in
    ap (λ (rest : List (List Marked)). marked (passes s) 0 ms ∷ rest)
    (all_marked_more passes (suc s) choice ns
    ∙ ap (λ (j : ℕ). all_marked passes (suc s) choice ++ marked (passes j) 0 ns ∷ []) e)

pub still_more : (passes : ℕ → Bool) (i : ℕ) (ms : List Marked) (m : Marked) →
    still_marked passes i (ms ++ m ∷ [])
    ≡ still_marked passes i ms ++ record { number = m.number; holds = m.holds && passes (i + length ms) } ∷ []
still_more passes i [] m =
    let e : i ≡ i + 0 = omega arith in ap (λ (j : ℕ). record { number = m.number; holds = m.holds && passes j } ∷ []) e
still_more passes i (k ∷ ms) m =
    let e : suc i + length ms ≡ i + suc (length ms) = omega arith in
    ap (λ (rest : List Marked). record { number = k.number; holds = k.holds && passes i } ∷ rest)
    (still_more passes (suc i) ms m
    ∙ ap (λ (j : ℕ). still_marked passes (suc i) ms ++ record { number = m.number; holds = m.holds && passes j } ∷ []) e)

-- marks where others pass too
pub still_both : (passes others : ℕ → Bool) (i : ℕ) (ns : List ℕ) →
    still_marked others i (marked passes i ns) ≡ marked (λ (j : ℕ). passes j && others j) i ns
still_both passes others i [] = refl
still_both passes others i (n ∷ ns) =
    ap (λ (rest : List Marked). record { number = n; holds = passes i && others i } ∷ rest) (still_both passes others (suc i) ns)

pub marked_same : (p q : ℕ → Bool) (i : ℕ) (ns : List ℕ) → ((j : ℕ) → p j ≡ q j) → marked p i ns ≡ marked q i ns
marked_same p q i [] h = refl
marked_same p q i (n ∷ ns) h =
    λ e. record { number = n; holds = h i e } ∷ marked_same p q (suc i) ns h e

pub all_same : (p q : ℕ → ℕ → Bool) (s : ℕ) (choice : Choice) → ((r j : ℕ) → s ≤ r → p r j ≡ q r j) →
    all_marked p s choice ≡ all_marked q s choice
all_same p q s [] h = refl
all_same p q s (ns ∷ choice) h =
    let here : s ≤ s = omega arith in
    let one = marked_same (p s) (q s) 0 ns (λ (j : ℕ). h s j here) in
    let rest = all_same p q (suc s) choice (λ (r j : ℕ) (l : suc s ≤ r). let m : s ≤ r = omega (arith, l) in h r j m) in
    λ e. one e ∷ rest e

-- the templates that are kept by their marks
pub numbers_same : (passes : ℕ → Bool) (i : ℕ) (ns : List ℕ) → numbers_of (marked passes i ns) ≡ numbers_kept passes i ns
numbers_same passes i [] = refl
numbers_same passes i (n ∷ ns) =
    λ e. if passes i then n ∷ numbers_same passes (suc i) ns e else numbers_same passes (suc i) ns e

pub sites_same : (passes : ℕ → ℕ → Bool) (s : ℕ) (choice : Choice) →
    map numbers_of (all_marked passes s choice) ≡ sites_kept passes s choice
sites_same passes s [] = refl
sites_same passes s (ns ∷ choice) =
    λ e. numbers_same (passes s) 0 ns e ∷ sites_same passes (suc s) choice e

kept_or : (b : Bool) (n : ℕ) (ns ms more : List ℕ) → ms ≡ ns ++ more →
    (if b then n ∷ ms else ms) ≡ (if b then n ∷ ns else ns) ++ more
kept_or true n ns ms more e = ap (λ (l : List ℕ). n ∷ l) e
kept_or false n ns ms more e = e

pub numbers_more : (ms : List Marked) (m : Marked) →
    numbers_of (ms ++ m ∷ []) ≡ numbers_of ms ++ (if m.holds then m.number ∷ [] else [])
numbers_more [] m = refl
numbers_more (k ∷ ms) m =
    kept_or k.holds k.number (numbers_of ms) (numbers_of (ms ++ m ∷ [])) (if m.holds then m.number ∷ [] else []) (numbers_more ms m)

-- the loops that make marks, and choices of them
pub mark_put : (passes : ℕ → Bool) (new old : List Marked) (ns : List ℕ) (i d : ℕ) (b : Bool) →
    new ≡ old ++ record { number = get_or ns i d; holds = b } ∷ [] → b ≡ passes i → i < length ns →
    old ≡ marked passes 0 (take i ns) → new ≡ marked passes 0 (take (i + 1) ns)
mark_put passes new old ns i d b is told h before =
    let least : i ≤ length ns = omega (arith, h) in
    let long = length-take-le i ns least in
    let place : i ≡ 0 + length (take i ns) = omega (arith, long) in
    is ∙ ap (λ (ms : List Marked). ms ++ record { number = get_or ns i d; holds = b } ∷ []) before
    ∙ ap (λ (c : Bool). marked passes 0 (take i ns) ++ record { number = get_or ns i d; holds = c } ∷ []) (told ∙ ap passes place)
    ∙ sym (marked_more passes 0 (take i ns) (get_or ns i d)) ∙ ap (marked passes 0) (sym (take_more ns i d h))

pub site_put : (passes : ℕ → Bool) (new old : List (Vec Marked Global)) (v : Vec Marked Global) (xs : List (Vec ℕ Global)) (i : ℕ)
    (x : Vec ℕ Global) (ns : List ℕ) → new ≡ old ++ v ∷ [] → v.items ≡ marked passes 0 ns → ns ≡ x.items → i < length xs →
    x ≡ get_or xs i x → rows old ≡ all_marked (λ (s : ℕ). passes) 0 (rows (take i xs)) →
    rows new ≡ all_marked (λ (s : ℕ). passes) 0 (rows (take (i + 1) xs))
site_put passes new old v xs i x ns is made same h e before =
    ap rows is ∙ map-append (λ (w : Vec Marked Global). w.items) old (v ∷ [])
    ∙ (λ k. before k ++ (made ∙ ap (marked passes 0) same) k ∷ [])
    ∙ sym (all_marked_more (λ (s : ℕ). passes) 0 (rows (take i xs)) x.items)
    ∙ ap (all_marked (λ (s : ℕ). passes) 0)
    (sym (ap rows (taken xs i x h e) ∙ map-append (λ (w : Vec ℕ Global). w.items) (take i xs) (x ∷ [])))

pub number_put : (new old : List ℕ) (ms : List Marked) (i : ℕ) (d : Marked) → new ≡ old ++ (get_or ms i d).number ∷ [] →
    (get_or ms i d).holds ≡ true → i < length ms → old ≡ numbers_of (take i ms) → new ≡ numbers_of (take (i + 1) ms)
number_put new old ms i d is there h before =
    let m = get_or ms i d in
    is ∙ ap (λ (ns : List ℕ). ns ++ m.number ∷ []) before
    ∙ ap (λ (b : Bool). numbers_of (take i ms) ++ (if b then m.number ∷ [] else [])) (sym there)
    ∙ sym (numbers_more (take i ms) m) ∙ ap numbers_of (sym (take_more ms i d h))

append_none : (ns : List ℕ) → ns ++ [] ≡ ns
append_none [] = refl
append_none (n ∷ ns) = ap (λ (l : List ℕ). n ∷ l) (append_none ns)

pub number_skipped : (old : List ℕ) (ms : List Marked) (i : ℕ) (d : Marked) → (get_or ms i d).holds ≡ false →
    i < length ms → old ≡ numbers_of (take i ms) → old ≡ numbers_of (take (i + 1) ms)
number_skipped old ms i d there h before =
    let m = get_or ms i d in
    before ∙ sym (append_none (numbers_of (take i ms)))
    ∙ ap (λ (b : Bool). numbers_of (take i ms) ++ (if b then m.number ∷ [] else [])) (sym there)
    ∙ sym (numbers_more (take i ms) m) ∙ ap numbers_of (sym (take_more ms i d h))

pub kept_put : (new old : List (Vec ℕ Global)) (v : Vec ℕ Global) (xs : List (Vec Marked Global)) (i : ℕ) (x : Vec Marked Global)
    (ms : List Marked) → new ≡ old ++ v ∷ [] → v.items ≡ numbers_of ms → ms ≡ x.items → i < length xs → x ≡ get_or xs i x →
    rows old ≡ map numbers_of (rows (take i xs)) → rows new ≡ map numbers_of (rows (take (i + 1) xs))
kept_put new old v xs i x ms is made same h e before =
    ap rows is ∙ map-append (λ (w : Vec ℕ Global). w.items) old (v ∷ [])
    ∙ (λ k. before k ++ (made ∙ ap numbers_of same) k ∷ [])
    ∙ sym (map-append numbers_of (rows (take i xs)) (x.items ∷ []))
    ∙ ap (map numbers_of) (sym (ap rows (taken xs i x h e) ∙ map-append (λ (w : Vec Marked Global). w.items) (take i xs) (x ∷ [])))
