-- The first literals, taken one by one, and the literals of statements one after the other.
use Rattle.sm_template.proofs.Imports.{◌≡◌, ℕ, zero, suc, ℤ, nat_lt, ◌+◌, ◌<◌, ◌≤◌, Bool, true, false, cond, not, ◌&&◌, if◌then◌else◌, List, [], ◌∷◌, ◌++◌, length, take, map, drop, get_or, refl, sym, ap, ◌∙◌, arith, fold, filter, list_any, flat_map, int_eq, ltb-true, ltb-false, append-nil, append_assoc, length-append, map_more, flat_map-append, fold-append, Filling, Fillings, Copy, Code, End, Skip, Assign, Write, If, While, Hole, append, Parts, sequence, statement_of, code_of, copies, with_new, distinct, with_literal, with_literals, literals_in, literals_tested, literals_used, literals_filled, literals_of}
use Rattle.std.proofs.Common.{pos, int_lt}
use Rattle.sm_syntax.specs.claim.ConflictFree.{O, A, B, M}
use Rattle.sm_syntax.specs.declared.tree.Stmt.{Stmt}
use Rattle.sm_syntax.proofs.Blocks.{statement_is, sequence-drop, sequence-drop-end}

-- some literals, and then others
pub with_literals-append : (seen first second : List ℤ) →
    with_literals seen (first ++ second) ≡ with_literals (with_literals seen first) second
with_literals-append seen first second = fold-append with_literal seen first second

-- what takes literals needs
pub ruleset taken = (with_literals-append)

-- code, and then other code
pub literals_used-append : (c r : Code) → literals_used (append c r) ≡ literals_used c ++ literals_used r
literals_used-append End r = refl
literals_used-append (Skip k) r = literals_used-append k r
literals_used-append (Assign x e k) r =
    ap (λ (l : List ℤ). literals_in e ++ l) (literals_used-append k r)
    ∙ sym (append_assoc (literals_in e) (literals_used k) (literals_used r))
literals_used-append (Write a i e k) r =
    ap (λ (l : List ℤ). (literals_in i ++ literals_in e) ++ l) (literals_used-append k r)
    ∙ sym (append_assoc (literals_in i ++ literals_in e) (literals_used k) (literals_used r))
literals_used-append (If b c d k) r =
    ap (λ (l : List ℤ). ((literals_tested b ++ literals_used c) ++ literals_used d) ++ l) (literals_used-append k r)
    ∙ sym (append_assoc ((literals_tested b ++ literals_used c) ++ literals_used d) (literals_used k) (literals_used r))
literals_used-append (While b c k) r =
    ap (λ (l : List ℤ). (literals_tested b ++ literals_used c) ++ l) (literals_used-append k r)
    ∙ sym (append_assoc (literals_tested b ++ literals_used c) (literals_used k) (literals_used r))
literals_used-append (Hole h k) r = literals_used-append k r

-- a list's statements from i on, where s stands at i
pub literals_used-drop : (l : List Stmt) (i : ℕ) (s : Stmt) → i < length l → s ≡ get_or l i s →
    literals_used (sequence (map statement_of (drop i l)) End)
    ≡ literals_used (statement_of s End) ++ literals_used (sequence (map statement_of (drop (i + 1) l)) End)
literals_used-drop l i s here item =
    let k = sequence (map statement_of (drop (i + 1) l)) End in
    ap literals_used (sequence-drop l i s End here ∙ statement_is (get_or l i s) k)
    ∙ ap (λ (t : Stmt). literals_used (append (statement_of t End) k)) (sym item)
    ∙ literals_used-append (statement_of s End) k

pub literals_used-end : (l : List Stmt) (i : ℕ) → length l ≤ i → literals_used (sequence (map statement_of (drop i l)) End) ≡ []
literals_used-end l i past = ap literals_used (sequence-drop-end l i End past)

-- fillings by number
abbrev pub filled_by : List Filling → Fillings
filled_by fs = map (λ (f : Filling). (f.hole, code_of f.block)) fs

-- one filling more
pub filled_more : (fs : List Filling) (i : ℕ) (f : Filling) → i < length fs → f ≡ get_or fs i f →
    literals_filled (filled_by (take (i + 1) fs)) ≡ literals_filled (filled_by (take i fs)) ++ literals_used (code_of f.block)
filled_more fs i f h item =
    let name : Filling → ℕ × Code = λ (g : Filling). (g.hole, code_of g.block) in
    let before = filled_by (take i fs) in
    ap literals_filled (map_more name fs i f h ∙ ap (λ (g : Filling). before ++ name g ∷ []) (sym item))
    ∙ flat_map-append (λ (g : ℕ × Code). literals_used g.1) before (name f ∷ [])
    ∙ ap (λ (l : List ℤ). literals_filled before ++ l) (append-nil (literals_used (code_of f.block)))

-- a part of a list that isn't longer
take_short : (n : ℕ) (xs : List ℤ) → length xs ≤ n → take n xs ≡ xs
take_short zero [] h = refl
take_short zero (x ∷ xs) h = absurd (omega arith)
take_short (suc n) [] h = refl
take_short (suc n) (x ∷ xs) h = ap (λ (l : List ℤ). x ∷ l) (take_short n xs (omega arith))

take_front : (n : ℕ) (xs : List ℤ) (x : ℤ) → n ≤ length xs → take n (xs ++ x ∷ []) ≡ take n xs
take_front zero [] x h = refl
take_front zero (y ∷ xs) x h = refl
take_front (suc n) [] x h = absurd (omega arith)
take_front (suc n) (y ∷ xs) x h = ap (λ (l : List ℤ). y ∷ l) (take_front n xs x (omega arith))

long_take : (n : ℕ) (xs : List ℤ) → n ≤ length xs → length (take n xs) ≡ n
long_take zero [] h = refl
long_take zero (x ∷ xs) h = refl
long_take (suc n) [] h = absurd (omega arith)
long_take (suc n) (x ∷ xs) h = ap suc (long_take n xs (omega arith))

-- a literal above 0 is taken of some
abbrev taken_of : ℤ → List ℤ → List ℤ
taken_of z l = if (nat_lt (length l) 8 && not (list_any (int_eq z) l)) then l ++ z ∷ [] else l

abbrev taken_where : List ℤ → ℤ → Bool → List ℤ
taken_where l z b = if (b && (nat_lt (length l) 8 && not (list_any (int_eq z) l))) then l ++ z ∷ [] else l

-- a literal is taken of the first eight where it is new of all
step : (seen : List ℤ) (z : ℤ) (positive : Bool) → int_lt (pos 0) z ≡ positive →
    with_literal (take 8 seen) z ≡ take 8 (cond positive (with_new int_eq seen z) seen)
step seen z false e = ap (taken_where (take 8 seen) z) e
step seen z true e = ap (taken_where (take 8 seen) z) e ∙ by (nat_lt (length seen) 8) refl
  where
    short : (b : Bool) → list_any (int_eq z) seen ≡ b → length seen < 8 → (if (true && not b) then seen ++ z ∷ [] else seen)
        ≡ take 8 (if b then seen else seen ++ z ∷ [])
    short true f h = sym (take_short 8 seen (omega arith))
    short false f h = let long = length-append seen (z ∷ []) in sym (take_short 8 (seen ++ z ∷ []) (omega (arith, long)))

    front : (b : Bool) → 8 ≤ length seen → take 8 seen ≡ take 8 (if b then seen else seen ++ z ∷ [])
    front true h = refl
    front false h = sym (take_front 8 seen z h)

    by : (b : Bool) → nat_lt (length seen) 8 ≡ b → taken_of z (take 8 seen) ≡ take 8 (with_new int_eq seen z)
    by true f =
        let h : length seen < 8 = ltb-true (length seen) 8 f in
        ap (taken_of z) (take_short 8 seen (omega (arith, h)))
        ∙ ap (λ (c : Bool). if (c && not (list_any (int_eq z) seen)) then seen ++ z ∷ [] else seen) f
        ∙ short (list_any (int_eq z) seen) refl h
    by false f =
        let h : 8 ≤ length seen = ltb-false (length seen) 8 f in
        let long : length (take 8 seen) ≡ 8 = long_take 8 seen h in
        ap (λ (n : ℕ). if (nat_lt n 8 && not (list_any (int_eq z) (take 8 seen))) then take 8 seen ++ z ∷ [] else take 8 seen) long
        ∙ front (list_any (int_eq z) seen) h

with_take : (seen zs : List ℤ) → with_literals (take 8 seen) zs ≡ take 8 (fold (with_new int_eq) seen (filter (int_lt (pos 0)) zs))
with_take seen [] = refl
with_take seen (z ∷ zs) =
    ap (λ (l : List ℤ). with_literals l zs) (step seen z (int_lt (pos 0) z) refl)
    ∙ with_take (cond (int_lt (pos 0) z) (with_new int_eq seen z) seen) zs
    ∙ by (int_lt (pos 0) z)
  where
    by : (b : Bool) → take 8 (fold (with_new int_eq) (cond b (with_new int_eq seen z) seen) (filter (int_lt (pos 0)) zs))
        ≡ take 8 (fold (with_new int_eq) seen (cond b (z ∷ filter (int_lt (pos 0)) zs) (filter (int_lt (pos 0)) zs)))
    by true = refl
    by false = refl

-- all that are taken are the first eight distinct ones above 0
pub literals_are : (zs : List ℤ) → with_literals [] zs ≡ take 8 (distinct int_eq (filter (int_lt (pos 0)) zs))
literals_are zs = with_take [] zs

-- those of the four lists of a task
pub literals_of_four : (t : Parts) (f : Copy → Fillings) → ((c : Copy) → t.fillings c ≡ f c) →
    with_literals
    (with_literals (with_literals (with_literals [] (literals_filled (f O))) (literals_filled (f A))) (literals_filled (f B)))
    (literals_filled (f M))
    ≡ literals_of t
literals_of_four t f h =
    let of : Copy → List ℤ = λ (c : Copy). literals_filled (f c) in
    let all = flat_map of copies in
    let same : flat_map (λ (c : Copy). literals_filled (t.fillings c)) copies ≡ all =
    (λ k. literals_filled (h O k) ++ (literals_filled (h A k) ++ (literals_filled (h B k) ++ (literals_filled (h M k) ++ [])))) in
    let behind : List ℤ → List ℤ → List ℤ = λ (seen more : List ℤ). with_literals seen more in
    let one : with_literals [] all ≡ behind (behind (behind (behind [] (of O)) (of A)) (of B)) (of M ++ []) =
    with_literals-append [] (of O) (of A ++ (of B ++ (of M ++ [])))
    ∙ with_literals-append (behind [] (of O)) (of A) (of B ++ (of M ++ []))
    ∙ with_literals-append (behind (behind [] (of O)) (of A)) (of B) (of M ++ []) in
    sym (one ∙ ap (behind (behind (behind (behind [] (of O)) (of A)) (of B))) (append-nil (of M)))
    ∙ literals_are all
    ∙ ap (λ (l : List ℤ). take 8 (distinct int_eq (filter (int_lt (pos 0)) l))) (sym same)
