-- The goals of outputs over a table that grows.
use Rattle.sm_plan.proofs.Imports.{◌≡◌, ℕ, zero, suc, ◌+◌, ◌<◌, Some, List, [], ◌∷◌, ◌++◌, length, map, take, get_or, refl, sym, ap, subst, ◌∙◌, arith, flat_map, take_more, flat_map-append, Name, Copy, O, A, B, M, copy_of, Sorts, Sort, Num, number_of, NumberedFormula, numbered, assertion_in, Formula, sort_named, tree_sort, AreFormsSorted, Tree, TableValue, trees_in, sorts_in, tree_at, ExtendsTable, AreFormsReady, AreOutputsDeclared, goals_over, with_sorts, AreAllWithin, place, keeps_goals, forms_in}
use Rattle.sm_term.specs.Assertions.{Eq, Ne, Or}
use Rattle.sm_plan.proofs.SummariesLemmas.{numbers}
use Rattle.sm_plan.proofs.TablesWiden.{assertion_stays, within_stays}

-- a copy by its number
pub copy_back : (c : Copy) → copy_of (number_of c) ≡ c
copy_back O = refl
copy_back A = refl
copy_back B = refl
copy_back M = refl

-- the goals of an output, where its places are known
pub goals_are : (sorts : Sorts) (trees : List Tree) (at : Copy → ℕ) (o : ℕ × Sort) → ((c : Copy) → tree_at trees (at c) ≡ place o c) →
    ((c : Copy) → tree_sort sorts (place o c) ≡ Num)
    → map (assertion_in sorts trees) (goals_over at) ≡ keeps_goals (place o)
goals_are sorts trees at o e n =
    let s : (c : Copy) → tree_sort sorts (tree_at trees (at c)) ≡ Num = λ (c : Copy). ap (tree_sort sorts) (e c) ∙ n c in
    λ i.
    Or (Eq (s O i) (e O i) (e A i)) (Eq (s M i) (e M i) (e A i))
    ∷ Or (Eq (s O i) (e O i) (e B i)) (Eq (s M i) (e M i) (e B i))
    ∷ Or (Ne (s O i) (e O i) (e A i)) (Or (Ne (s A i) (e A i) (e B i)) (Eq (s M i) (e M i) (e O i)))
    ∷ []

pub goals_within : (count : ℕ) (at : Copy → ℕ) → ((c : Copy) → at c < count) → AreAllWithin count (goals_over at)
goals_within count at h = (((h O, h A), (h M, h A)), (((h O, h B), (h M, h B)), (((h O, h A), ((h A, h B), (h M, h O))), tt)))

pub all_append : (count : ℕ) (fs gs : List NumberedFormula) → AreAllWithin count fs → AreAllWithin count gs → AreAllWithin count (fs ++ gs)
all_append count [] gs p q = q
all_append count (f ∷ fs) gs p q = (p.0, all_append count fs gs p.1 q)

-- over a wider table
pub all_stay : (v w : TableValue) → ExtendsTable v w → (fs : List NumberedFormula) → AreAllWithin (length (trees_in v)) fs
    → map (assertion_in (sorts_in w) (trees_in w)) fs ≡ map (assertion_in (sorts_in v) (trees_in v)) fs
all_stay v w wider [] h = refl
all_stay v w wider (f ∷ fs) h = λ i. assertion_stays v w wider f h.0 i ∷ all_stay v w wider fs h.1 i

pub all_within : (v w : TableValue) → ExtendsTable v w → (fs : List NumberedFormula) → AreAllWithin (length (trees_in v)) fs →
    AreAllWithin (length (trees_in w)) fs
all_within v w wider [] h = tt
all_within v w wider (f ∷ fs) h = (within_stays v w wider f h.0, all_within v w wider fs h.1)

-- sorted formulas of a table are ready
pub ready_from : (sorts : Sorts) (trees : List Tree) (fs : List Formula) → AreAllWithin (length trees) (map numbered fs) →
    AreFormsSorted sorts (forms_in sorts trees fs) → AreFormsReady sorts trees fs
ready_from sorts trees [] h s = tt
ready_from sorts trees (f ∷ fs) h s = ((h.0, s.0), ready_from sorts trees fs h.1 s.1)

-- the output at a place of a list
pub output_at : (sorts : Sorts) (names : List Name) (i : ℕ) → i < length names →
    AreOutputsDeclared sorts (with_sorts sorts (numbers names)) →
    sorts (get_or names i (record { 0 = 0 })).0 ≡ Some (sort_named sorts (get_or names i (record { 0 = 0 })).0)
output_at sorts [] i h all = absurd (omega arith)
output_at sorts (x ∷ xs) zero h all = all.0
output_at sorts (x ∷ xs) (suc i) h all = output_at sorts xs i (omega arith) all.1

pub outputs_more : (sorts : Sorts) (names : List Name) (i : ℕ) → i < length names
    → take (i + 1) (with_sorts sorts (numbers names))
    ≡ take i (with_sorts sorts (numbers names))
    ++ ((get_or names i (record { 0 = 0 })).0, sort_named sorts (get_or names i (record { 0 = 0 })).0) ∷ []
outputs_more sorts names i h =
    let d : ℕ × Sort = (0, sort_named sorts 0) in
    take_more (with_sorts sorts (numbers names)) i d (subst (λ n. i < n) (sym (long names)) h)
    ∙ ap (λ (o : ℕ × Sort). take i (with_sorts sorts (numbers names)) ++ o ∷ []) (at names i)
  where
    long : (ns : List Name) → length (with_sorts sorts (numbers ns)) ≡ length ns
    long [] = refl
    long (x ∷ xs) = ap suc (long xs)

    at : (ns : List Name) (j : ℕ) → get_or (with_sorts sorts (numbers ns)) j (0, sort_named sorts 0)
        ≡ ((get_or ns j (record { 0 = 0 })).0, sort_named sorts (get_or ns j (record { 0 = 0 })).0)
    at [] j = refl
    at (x ∷ xs) zero = refl
    at (x ∷ xs) (suc j) = at xs j

-- the goals of one output more
pub goals_more : (os : List (ℕ × Sort)) (o : ℕ × Sort) →
    flat_map (λ (p : ℕ × Sort). keeps_goals (place p)) (os ++ o ∷ []) ≡ flat_map (λ (p : ℕ × Sort). keeps_goals (place p)) os
    ++ keeps_goals (place o)
goals_more os o = flat_map-append (λ (p : ℕ × Sort). keeps_goals (place p)) os (o ∷ [])

pub long-outputs : (sorts : Sorts) (names : List Name) → length (with_sorts sorts (numbers names)) ≡ length names
long-outputs sorts [] = refl
long-outputs sorts (x ∷ xs) = ap suc (long-outputs sorts xs)
