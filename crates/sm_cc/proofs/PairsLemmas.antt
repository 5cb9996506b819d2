-- What follows from pairs in one round, as a set.
use Rattle.sm_cc.proofs.Imports.{◌≡◌, ◌⊎◌, ℕ, zero, suc, ◌+◌, ◌*◌, Bool, true, false, ◌&&◌, if◌then◌else◌, List, [], ◌∷◌, ◌++◌, map, length, inl, inr, ⊎_elim, refl, sym, ap, subst, ◌∙◌, arith, filter, and_parts, or_left, or_right, or_cases, fun_ext, Tree, same_tree, same_tree_is, is_among, Pairs, Setting, pairs_of, follows, next_pairs, pairs_after, same_tests}
use Rattle.sm_cc.specs.Rounds.{is_listed}
use Rattle.sm_cc.proofs.StandingLemmas.{both}
use Rattle.sm_cc.proofs.IteratedLemmas.{IsIn, rounds}

-- a pair of terms
abbrev pub Duo : Type 0
Duo = Tree × Tree

-- pairs as one set
abbrev pub paired : Pairs → Duo → Bool
paired equal p = equal p.0 p.1

-- one round
abbrev pub round : Setting → (Duo → Bool) → Duo → Bool
round s set p = is_among s.terms p.0 && (is_among s.terms p.1 && follows s (λ t u. set (t, u)) p.0 p.1)

-- a term that is among others is in their list
pub among_in : (ts : List Tree) (t : Tree) → is_among ts t ≡ true → IsIn ts t
among_in [] t h = absurd cc
among_in (u ∷ ts) t h =
    ⊎_elim (λ (e : same_tree t u ≡ true). inl (sym ((same_tree_is t u).0 e))) (λ (later : is_among ts t ≡ true). inr (among_in ts t later))
    (or_cases (same_tree t u) (is_among ts t) h)

pub in_among : (ts : List Tree) (t : Tree) → IsIn ts t → is_among ts t ≡ true
in_among [] t h = absurd h
in_among (u ∷ ts) t h =
    ⊎_elim (λ (e : u ≡ t). or_left (same_tree t u) (is_among ts t) ((same_tree_is t u).1 (sym e)))
    (λ (later : IsIn ts t). or_right (same_tree t u) (is_among ts t) (in_among ts t later)) h

-- a pair that is listed is in the list
listed_in : (l : List Duo) (t u : Tree) → is_listed l t u ≡ true → IsIn l (t, u)
listed_in [] t u h = absurd cc
listed_in (p ∷ l) t u h =
    ⊎_elim
    (λ (e : (same_tree p.0 t && same_tree p.1 u) ≡ true).
    let parts = and_parts (same_tree p.0 t) (same_tree p.1 u) e in
    let first : p.0 ≡ t = (same_tree_is p.0 t).0 parts.0 in
    let second : p.1 ≡ u = (same_tree_is p.1 u).0 parts.1 in
    let same : p ≡ (t, u) = ap (λ (x : Tree). let d : Duo = (x, p.1) in d) first ∙ ap (λ (y : Tree). let d : Duo = (t, y) in d) second in
    inl same)
    (λ (later : is_listed l t u ≡ true). inr (listed_in l t u later))
    (or_cases (same_tree p.0 t && same_tree p.1 u) (is_listed l t u) h)

in_listed : (l : List Duo) (x : Duo) → IsIn l x → is_listed l x.0 x.1 ≡ true
in_listed [] x h = absurd h
in_listed (p ∷ l) x h =
    ⊎_elim
    (λ (e : p ≡ x).
    or_left (same_tree p.0 x.0 && same_tree p.1 x.1) (is_listed l x.0 x.1)
    (both ((same_tree_is p.0 x.0).1 (ap (λ (d : Duo). d.0) e)) ((same_tree_is p.1 x.1).1 (ap (λ (d : Duo). d.1) e))))
    (λ (later : IsIn l x). or_right (same_tree p.0 x.0 && same_tree p.1 x.1) (is_listed l x.0 x.1) (in_listed l x later)) h

-- what is left of a list by a test
in_filter : (f : Duo → Bool) (l : List Duo) (x : Duo) → IsIn (filter f l) x → IsIn l x × (f x ≡ true)
in_filter f [] x h = absurd h
in_filter f (p ∷ l) x h = by (f p) refl h (in_filter f l x)
  where
    by : (b : Bool) → f p ≡ b → IsIn (if b then p ∷ filter f l else filter f l) x → (IsIn (filter f l) x → IsIn l x × (f x ≡ true)) →
        IsIn (p ∷ l) x × (f x ≡ true)
    by true e h rest =
        ⊎_elim (λ (is : p ≡ x). let passes : f x ≡ true = ap f (sym is) ∙ e in (inl is, passes))
        (λ (later : IsIn (filter f l) x). let r = rest later in (inr r.0, r.1)) h
    by false e h rest = let r = rest h in (inr r.0, r.1)

filter_in : (f : Duo → Bool) (l : List Duo) (x : Duo) → IsIn l x → f x ≡ true → IsIn (filter f l) x
filter_in f [] x h e = absurd h
filter_in f (p ∷ l) x h e = by (f p) refl h (filter_in f l x)
  where
    by : (b : Bool) → f p ≡ b → IsIn (p ∷ l) x → (IsIn l x → f x ≡ true → IsIn (filter f l) x) →
        IsIn (if b then p ∷ filter f l else filter f l) x
    by true is h rest = ⊎_elim (λ (same : p ≡ x). inl same) (λ (later : IsIn l x). inr (rest later e)) h
    by false is h rest =
        ⊎_elim (λ (same : p ≡ x). absurd (let no : false ≡ true = sym is ∙ ap f same ∙ e in cc)) (λ (later : IsIn l x). rest later e) h

-- two lists together
in_append : (xs ys : List Duo) (x : Duo) → IsIn (xs ++ ys) x → IsIn xs x ⊎ IsIn ys x
in_append [] ys x h = inr h
in_append (p ∷ xs) ys x h =
    ⊎_elim (λ (e : p ≡ x). inl (inl e))
    (λ (later : IsIn (xs ++ ys) x).
    ⊎_elim (λ (one : IsIn xs x). inl (inr one)) (λ (other : IsIn ys x). inr other) (in_append xs ys x later)) h

append_first : (xs ys : List Duo) (x : Duo) → IsIn xs x → IsIn (xs ++ ys) x
append_first [] ys x h = absurd h
append_first (p ∷ xs) ys x h = ⊎_elim (λ (e : p ≡ x). inl e) (λ (later : IsIn xs x). inr (append_first xs ys x later)) h

append_second : (xs ys : List Duo) (x : Duo) → IsIn ys x → IsIn (xs ++ ys) x
append_second [] ys x h = h
append_second (p ∷ xs) ys x h = inr (append_second xs ys x h)

-- a term with each of a list
in_with : (t : Tree) (us : List Tree) (x : Duo) → IsIn (map (λ (u : Tree). let d : Duo = (t, u) in d) us) x → (t ≡ x.0) × IsIn us x.1
in_with t [] x h = absurd h
in_with t (u ∷ us) x h =
    ⊎_elim (λ (e : (t, u) ≡ x). (ap (λ (d : Duo). d.0) e, inl (ap (λ (d : Duo). d.1) e)))
    (λ (later : IsIn (map (λ (u : Tree). let d : Duo = (t, u) in d) us) x). let r = in_with t us x later in (r.0, inr r.1)) h

with_in : (t : Tree) (us : List Tree) (u : Tree) → IsIn us u → IsIn (map (λ (u : Tree). let d : Duo = (t, u) in d) us) (t, u)
with_in t [] u h = absurd h
with_in t (v ∷ us) u h =
    ⊎_elim (λ (e : v ≡ u). inl (ap (λ (y : Tree). let d : Duo = (t, y) in d) e)) (λ (later : IsIn us u). inr (with_in t us u later)) h

-- each term of one list with each of another
pub in_pairs : (ts us : List Tree) (x : Duo) → IsIn (pairs_of ts us) x → IsIn ts x.0 × IsIn us x.1
in_pairs [] us x h = absurd h
in_pairs (t ∷ ts) us x h =
    ⊎_elim (λ (here : IsIn (map (λ (u : Tree). let d : Duo = (t, u) in d) us) x). let r = in_with t us x here in (inl r.0, r.1))
    (λ (later : IsIn (pairs_of ts us) x). let r = in_pairs ts us x later in (inr r.0, r.1))
    (in_append (map (λ (u : Tree). let d : Duo = (t, u) in d) us) (pairs_of ts us) x h)

pub pairs_in : (ts us : List Tree) (t u : Tree) → IsIn ts t → IsIn us u → IsIn (pairs_of ts us) (t, u)
pairs_in [] us t u h k = absurd h
pairs_in (v ∷ ts) us t u h k =
    ⊎_elim
    (λ (e : v ≡ t).
    append_first (map (λ (u : Tree). let d : Duo = (v, u) in d) us) (pairs_of ts us) (t, u)
    (subst (λ (w : Tree). IsIn (map (λ (u : Tree). let d : Duo = (v, u) in d) us) (w, u)) e (with_in v us u k)))
    (λ (later : IsIn ts t).
    append_second (map (λ (u : Tree). let d : Duo = (v, u) in d) us) (pairs_of ts us) (t, u) (pairs_in ts us t u later k)) h

length-with : (t : Tree) (us : List Tree) → length (map (λ (u : Tree). let d : Duo = (t, u) in d) us) ≡ length us
length-with t [] = refl
length-with t (u ∷ us) = ap suc (length-with t us)

length-both : (xs ys : List Duo) → length (xs ++ ys) ≡ length xs + length ys
length-both [] ys = omega arith
length-both (x ∷ xs) ys = let rest = length-both xs ys in omega (arith, rest)

pub length-pairs : (ts us : List Tree) → length (pairs_of ts us) ≡ length ts * length us
length-pairs [] us = omega arith
length-pairs (t ∷ ts) us =
    let rest = length-pairs ts us in
    let here = length-with t us in
    let all = length-both (map (λ (u : Tree). let d : Duo = (t, u) in d) us) (pairs_of ts us) in
    counted (length ts) (length us) (length (pairs_of ts us)) (length (map (λ (u : Tree). let d : Duo = (t, u) in d) us)) _ all here rest
  where
    counted : (m n rest here all : ℕ) → all ≡ here + rest → here ≡ n → rest ≡ m * n → all ≡ suc m * n
    counted m n rest here all e f g = omega (arith, e, f, g)

-- what follows in one round
listed_next : (s : Setting) (pairs : List Duo) → paired (is_listed (next_pairs s pairs)) ≡ round s (paired (is_listed pairs))
listed_next s pairs = fun_ext λ (p : Duo).
    let ts = s.terms in
    let test : Duo → Bool = λ (q : Duo). follows s (is_listed pairs) q.0 q.1 in
    let out : is_listed (next_pairs s pairs) p.0 p.1 ≡ true → round s (paired (is_listed pairs)) p ≡ true =
    λ (h : is_listed (next_pairs s pairs) p.0 p.1 ≡ true).
    let left = in_filter test (pairs_of ts ts) p (listed_in (next_pairs s pairs) p.0 p.1 h) in
    let among = in_pairs ts ts p left.0 in
    both (in_among ts p.0 among.0) (both (in_among ts p.1 among.1) left.1) in
    let back : round s (paired (is_listed pairs)) p ≡ true → is_listed (next_pairs s pairs) p.0 p.1 ≡ true =
    λ (h : round s (paired (is_listed pairs)) p ≡ true).
    let one = and_parts (is_among ts p.0) (is_among ts p.1 && test p) h in
    let two = and_parts (is_among ts p.1) (test p) one.1 in
    in_listed (next_pairs s pairs) p
    (filter_in test (pairs_of ts ts) p (pairs_in ts ts p.0 p.1 (among_in ts p.0 one.0) (among_in ts p.1 two.0)) two.1) in
    same_tests (is_listed (next_pairs s pairs) p.0 p.1) (round s (paired (is_listed pairs)) p) out back

-- in so many rounds
pub listed_after : (n : ℕ) (s : Setting) (pairs : List Duo) →
    paired (is_listed (pairs_after n s pairs)) ≡ rounds n (round s) (paired (is_listed pairs))
listed_after zero s pairs = refl
listed_after (suc n) s pairs = listed_after n s (next_pairs s pairs) ∙ ap (rounds n (round s)) (listed_next s pairs)
