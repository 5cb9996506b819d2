-- Lines of arrays: from what each adds its fact, and that the fact holds, is sorted and below as the
-- facts are, and is added on another branch with the same facts.
use Rattle.sm_theory.proofs.Imports.{◌≡◌, ℕ, ℤ, Bool, true, ◌&&◌, if◌then◌else◌, IsTrue, Option, Some, List, subst, sym, ap, ◌∙◌, int_eq, and_parts, and_from, false_from_ne_true, Decides-int_eq, SameAs, Sorts, Sort, Num, number, array, with_element, Tree, Read, Write, Structure, meaning, tree_sort, IsSorted, IsBelow, same_tree, same_tree_is, BranchFact, Formal, IsFact, AreFacts, Hit, Miss, followed, equation_at, contrary_at, formula_if, says_equal, IsFactSorted, AreFactsSorted, IsFactBelow, AddsWhatHolds, AddsWhatIsSorted, AddsWhatIsBelow, AddsAnywhere, arrays}
use Rattle.sm_term.specs.Assertions.{Eq}
use Rattle.sm_theory.specs.Elements.{Written, written_in, read_in, read_of_written, element_adds}
use Rattle.sm_theory.proofs.FactsLemmas.{fact_holds, fact_is_sorted, contrary, contrary_stands, followed_from, Gives, followed_gives, gives_itself, equation_moves, contrary_moves}
use Rattle.sm_theory.proofs.EqualityLemmas.{formula_if_from, formula_if_moves, says_from, says_moves}
use Rattle.sm_theory.proofs.EqualitySound.{says_means}

-- a read, from its array and its index
read_is : (t : Tree) (r : Tree × Tree) → read_in t ≡ Some r → t ≡ Read r.0 r.1
read_is (Read a i) r h = let same : (a, i) ≡ r = cc in ap (λ (p : Tree × Tree). Read p.0 p.1) same
read_is t r h = absurd cc

-- a write, from what was written
written_is : (t : Tree) (w : Written) → written_in t ≡ Some w → t ≡ Write w.before w.index w.element
written_is (Write a i e) w h =
    let same : record { before = a; index = i; element = e } ≡ w = cc in ap (λ (v : Written). Write v.before v.index v.element) same
written_is t w h = absurd cc

-- a read of an array to which an element was written
abbrev pub read_back : Written → Tree → Tree
read_back w j = Read (Write w.before w.index w.element) j

-- what goes on from such a read was one
read_back_from : (t : Tree) (next : Written → Tree → Option BranchFact) (k : BranchFact) → read_of_written t next ≡ Some k →
    (w : Written) × (j : Tree) × (t ≡ read_back w j) × (next w j ≡ Some k)
read_back_from t next k h =
    let p = followed_from (read_in t) (λ (r : Tree × Tree). followed (written_in r.0) (λ (w : Written). next w r.1)) k h in
    let q = followed_from (written_in p.0.0) (λ (w : Written). next w p.0.1) k p.2 in
    (q.0, p.0.1, read_is t p.0 p.1 ∙ ap (λ (a : Tree). Read a p.0.1) (written_is p.0.0 q.0 q.1), q.2)

-- an element is read at its index
pub hit_from : (facts : List BranchFact) (t : Tree) (n : ℕ) (k : BranchFact) → element_adds facts (Hit t n) ≡ Some k →
    (w : Written) × (j : Tree) × (t ≡ read_back w j) × IsTrue (says_equal (equation_at facts n) w.index j) ×
    (Formal (Eq Num t w.element) ≡ k)
hit_from facts t n k h =
    let p = read_back_from t
    (λ (w : Written) (j : Tree). formula_if (says_equal (equation_at facts n) w.index j) (Eq Num t w.element)) k h in
    let q = formula_if_from (says_equal (equation_at facts n) p.0.index p.1) (Eq Num t p.0.element) k p.3 in
    (p.0, p.1, p.2, q.0, q.1)

-- at another
pub miss_from : (facts : List BranchFact) (t u : Tree) (n : ℕ) (k : BranchFact) → element_adds facts (Miss t u n) ≡ Some k →
    (w : Written) × (j : Tree) × (t ≡ read_back w j) × IsTrue (says_equal (contrary_at facts n) w.index j) × (u ≡ Read w.before j) ×
    (Formal (Eq Num t u) ≡ k)
miss_from facts t u n k h =
    let p = read_back_from t
    (λ (w : Written) (j : Tree). formula_if (says_equal (contrary_at facts n) w.index j && same_tree u (Read w.before j)) (Eq Num t u))
    k h in
    let q = formula_if_from (says_equal (contrary_at facts n) p.0.index p.1 && same_tree u (Read p.0.before p.1)) (Eq Num t u) k p.3 in
    let r = and_parts (says_equal (contrary_at facts n) p.0.index p.1) (same_tree u (Read p.0.before p.1)) q.0 in
    (p.0, p.1, p.2, r.0, (same_tree_is u (Read p.0.before p.1)).0 r.1, q.1)

-- a fact that says that two terms aren't equal
pub says_apart : (sorts : Sorts) (m : Structure) (facts : List BranchFact) (n : ℕ) (t u : Tree) → AreFactsSorted sorts facts → AreFacts m facts →
    IsTrue (says_equal (contrary_at facts n) t u) →
    SameAs (tree_sort sorts t) (meaning m t) (meaning m u) → ⊥
says_apart sorts m facts n t u all hold h =
    let p = says_from (contrary_at facts n) t u h in
    let stands = contrary_stands facts n p.0 p.1 in
    let sorted = fact_is_sorted sorts facts n (contrary p.0) all stands in
    subst (λ (v : Tree). SameAs (tree_sort sorts t) (meaning m t) (meaning m v) → ⊥) p.3
    (subst (λ (v : Tree). SameAs (tree_sort sorts v) (meaning m v) (meaning m p.0.right) → ⊥) p.2
    (subst (λ (s : Sort). SameAs s (meaning m p.0.left) (meaning m p.0.right) → ⊥) (sym sorted.0.1)
    (fact_holds m facts n (contrary p.0) hold stands)))

-- an array at the index at which an element was written
element_there : (f : ℤ → ℤ) (i z j : ℤ) → i ≡ j → with_element f i z j ≡ z
element_there f i z j same = ap (λ (b : Bool). if b then z else f j) ((Decides-int_eq j i).1 (sym same))

-- an array is as before at an index other than that at which an element was written
element_elsewhere : (f : ℤ → ℤ) (i z j : ℤ) → (i ≡ j → ⊥) → with_element f i z j ≡ f j
element_elsewhere f i z j other =
    ap (λ (b : Bool). if b then z else f j)
    (false_from_ne_true (int_eq j i) (λ (e : int_eq j i ≡ true). other (sym ((Decides-int_eq j i).0 e))))

-- what is read at the index is what was written
hit_means : (sorts : Sorts) (m : Structure) (w : Written) (j : Tree) → IsSorted sorts (read_back w j) →
    SameAs (tree_sort sorts w.index) (meaning m w.index) (meaning m j) →
    SameAs Num (meaning m (read_back w j)) (meaning m w.element)
hit_means sorts m w j sorted same =
    element_there (array (meaning m w.before)) (number (meaning m w.index)) (number (meaning m w.element)) (number (meaning m j))
    (subst (λ (s : Sort). SameAs s (meaning m w.index) (meaning m j)) sorted.0.3 same)

-- what is read at another is what was there before
miss_means : (sorts : Sorts) (m : Structure) (w : Written) (j : Tree) → IsSorted sorts (read_back w j) →
    (SameAs (tree_sort sorts w.index) (meaning m w.index) (meaning m j) → ⊥) →
    SameAs Num (meaning m (read_back w j)) (meaning m (Read w.before j))
miss_means sorts m w j sorted other =
    element_elsewhere (array (meaning m w.before)) (number (meaning m w.index)) (number (meaning m w.element)) (number (meaning m j))
    (subst (λ (s : Sort). SameAs s (meaning m w.index) (meaning m j) → ⊥) sorted.0.3 other)

-- what arrays add holds wherever the facts do
pub arrays_hold : AddsWhatHolds arrays
arrays_hold sorts m facts (Hit t n) k all named h hold =
    let p = hit_from facts t n k h in
    subst (IsFact m) p.4
    (subst (λ (v : Tree). SameAs Num (meaning m v) (meaning m p.0.element)) (sym p.2)
    (hit_means sorts m p.0 p.1 (subst (IsSorted sorts) p.2 named) (says_means sorts m facts n p.0.index p.1 all hold p.3)))
arrays_hold sorts m facts (Miss t u n) k all named h hold =
    let p = miss_from facts t u n k h in
    subst (IsFact m) p.5
    (subst (λ (v : Tree). SameAs Num (meaning m v) (meaning m u)) (sym p.2)
    (subst (λ (v : Tree). SameAs Num (meaning m (read_back p.0 p.1)) (meaning m v)) (sym p.4)
    (miss_means sorts m p.0 p.1 (subst (IsSorted sorts) p.2 named.0) (says_apart sorts m facts n p.0.index p.1 all hold p.3))))
arrays_hold sorts m facts line k all named h hold = absurd cc

-- it is sorted
pub arrays_sorted : AddsWhatIsSorted arrays
arrays_sorted sorts facts (Hit t n) k all named h =
    let p = hit_from facts t n k h in
    let g = subst (IsSorted sorts) p.2 named in
    subst (IsFactSorted sorts) p.4 ((named, ap (tree_sort sorts) p.2), (g.0.4, g.0.5))
arrays_sorted sorts facts (Miss t u n) k all named h =
    let p = miss_from facts t u n k h in
    subst (IsFactSorted sorts) p.5 ((named.0, ap (tree_sort sorts) p.2), (named.1, ap (tree_sort sorts) p.4))
arrays_sorted sorts facts line k all named h = absurd cc

-- it names new values of earlier nodes alone
pub arrays_below : AddsWhatIsBelow arrays
arrays_below sorts node facts (Hit t n) k all named h =
    let p = hit_from facts t n k h in
    let g = subst (IsBelow node) p.2 named in
    subst (IsFactBelow node) p.4 (named, g.0.2)
arrays_below sorts node facts (Miss t u n) k all named h =
    let p = miss_from facts t u n k h in subst (IsFactBelow node) p.5 named
arrays_below sorts node facts line k all named h = absurd cc

-- what goes on from a read
pub read_gives : (t : Tree) (next other : Written → Tree → Option BranchFact) → ((w : Written) (j : Tree) → Gives (next w j) (other w j)) →
    Gives (read_of_written t next) (read_of_written t other)
read_gives t next other more =
    followed_gives (read_in t) (read_in t) (λ (r : Tree × Tree). followed (written_in r.0) (λ (w : Written). next w r.1))
    (λ (r : Tree × Tree). followed (written_in r.0) (λ (w : Written). other w r.1)) (gives_itself (read_in t))
    (λ (r : Tree × Tree). followed_gives (written_in r.0) (written_in r.0) (λ (w : Written). next w r.1) (λ (w : Written). other w r.1)
    (gives_itself (written_in r.0)) (λ (w : Written). more w r.1))

-- another branch with the same facts gives it too
pub arrays_anywhere : AddsAnywhere arrays
arrays_anywhere sorts move facts others (Hit t n) k alike h =
    read_gives t
    (λ (w : Written) (j : Tree). formula_if (says_equal (equation_at facts n) w.index j) (Eq Num t w.element))
    (λ (w : Written) (j : Tree). formula_if (says_equal (equation_at others (move n)) w.index j) (Eq Num t w.element))
    (λ (w : Written) (j : Tree).
    formula_if_moves (says_equal (equation_at facts n) w.index j) (says_equal (equation_at others (move n)) w.index j) (Eq Num t w.element)
    (says_moves (equation_at facts n) (equation_at others (move n)) w.index j (equation_moves move facts others n alike.0.0)))
    k h
arrays_anywhere sorts move facts others (Miss t u n) k alike h =
    read_gives t
    (λ (w : Written) (j : Tree). formula_if (says_equal (contrary_at facts n) w.index j && same_tree u (Read w.before j)) (Eq Num t u))
    (λ (w : Written) (j : Tree). formula_if (says_equal (contrary_at others (move n)) w.index j && same_tree u (Read w.before j))
    (Eq Num t u))
    (λ (w : Written) (j : Tree).
    formula_if_moves (says_equal (contrary_at facts n) w.index j && same_tree u (Read w.before j))
    (says_equal (contrary_at others (move n)) w.index j && same_tree u (Read w.before j)) (Eq Num t u)
    (λ (b : (says_equal (contrary_at facts n) w.index j && same_tree u (Read w.before j)) ≡ true).
    let q = and_parts (says_equal (contrary_at facts n) w.index j) (same_tree u (Read w.before j)) b in
    and_from (says_equal (contrary_at others (move n)) w.index j) (same_tree u (Read w.before j))
    (says_moves (contrary_at facts n) (contrary_at others (move n)) w.index j (contrary_moves move facts others n alike.0.0) q.0)
    q.1))
    k h
arrays_anywhere sorts move facts others line k alike h = absurd cc
