-- Tests of the copies of a set, as the program asks them copy by copy.
use Rattle.sm_moves.proofs.Imports.{◌≡◌, Bool, true, false, not, ◌&&◌, ◌||◌, cond, Some, List, [], ◌∷◌, map, refl, sym, ap, ◌∙◌, find, list_all, Code, Copy, O, A, B, M, same_code, code_itself, Copies, copies, each, has, are_same, is_shared}
use Rattle.std.specs.Prelude.{filter}

-- all of those that pass one test pass another
all_filtered : (f g : Copy → Bool) (cs : List Copy) → list_all f (filter g cs) ≡ list_all (λ (c : Copy). not (g c) || f c) cs
all_filtered f g [] = refl
all_filtered f g (c ∷ cs) = by (g c) (all_filtered f g cs)
  where
    by : (b : Bool) → list_all f (filter g cs) ≡ list_all (λ (d : Copy). not (g d) || f d) cs →
        list_all f (cond b (c ∷ filter g cs) (filter g cs)) ≡ ((not b || f c) && list_all (λ (d : Copy). not (g d) || f d) cs)
    by true h = ap (λ (x : Bool). f c && x) h
    by false h = h

pub and_true : (a : Bool) → (a && true) ≡ a
and_true true = refl
and_true false = refl

-- the code of each is a copy's, where all are the same
all_mapped : (test : Code → Bool) (code : Copy → Code) (cs : List Copy) →
    list_all test (map code cs) ≡ list_all (λ (c : Copy). test (code c)) cs
all_mapped test code [] = refl
all_mapped test code (c ∷ cs) = ap (λ (x : Bool). test (code c) && x) (all_mapped test code cs)

first_found : (g : Copy → Bool) (cs : List Copy) (c : Copy) → find g cs ≡ Some c →
    (rest : List Copy) × (filter g cs ≡ c ∷ rest)
first_found g [] c e = absurd cc
first_found g (d ∷ cs) c e = by (g d) e (first_found g cs c)
  where
    by : (b : Bool) → cond b (Some d) (find g cs) ≡ Some c →
        (find g cs ≡ Some c → (rest : List Copy) × (filter g cs ≡ c ∷ rest)) →
        (rest : List Copy) × (cond b (d ∷ filter g cs) (filter g cs) ≡ c ∷ rest)
    by true h later = (filter g cs, let is : d ≡ c = cc in ap (λ (x : Copy). x ∷ filter g cs) is)
    by false h later = later h

-- the copies of a set are compared with the first one
pub shared_first : (set : Copies) (code : Copy → Code) (c : Copy) → find (has set) copies ≡ Some c →
    each (λ (d : Copy). not (has set d) || same_code (code c) (code d)) ≡ is_shared set code
shared_first set code c e =
    let p = first_found (has set) copies c e in
    let test : Copy → Bool = λ (d : Copy). same_code (code c) (code d) in
    let asked : Copy → Bool = λ (d : Copy). not (has set d) || test d in
    let every : each asked ≡ list_all asked copies =
    ap (λ (x : Bool). asked O && (asked A && (asked B && x))) (sym (and_true (asked M))) in
    let here : list_all test (c ∷ p.0) ≡ list_all test p.0 = ap (λ (x : Bool). x && list_all test p.0) (code_itself (code c)) in
    every ∙ sym (all_filtered test (has set) copies) ∙ ap (list_all test) p.1 ∙ here ∙ sym (all_mapped (same_code (code c)) code p.0)
    ∙ ap (λ (l : List Copy). are_same (map code l)) (sym p.1)
