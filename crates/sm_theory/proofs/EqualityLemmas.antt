-- Lines of equality: from which facts each adds what, that it is sorted and below as these are, and
-- that another branch with the same facts gives it too.
use Rattle.sm_theory.proofs.Imports.{◌≡◌, ◌⊎◌, ℕ, Bool, true, false, ◌&&◌, slice_get, IsTrue, Option, Some, None, List, [], ◌∷◌, map, inl, inr, ⊎_elim, refl, subst, sym, ap, ◌∙◌, AllByRecursion, and_parts, and_from, Sorts, Tree, Assertion, Ne, tree_sort, same_tree, arguments_of, same_head, same_tree_is, same_head_has_sort, BranchFact, Formal, Refl, Sym, Trans, Subst, Cong, followed, formula_in, Sides, equal_sides, unequal_sides, equation_at, contrary_at, formula_if, turned_equation, turned_contrary, or_other, chained, substituted, says_equal, say_equal, is_inhabited_list, equality_adds, IsFactSorted, IsFactBelow, StandsMoved, AddsWhatIsSorted, AddsWhatIsBelow, AddsAnywhere, equality}
use Rattle.sm_term.specs.Assertions.{Eq}
use Rattle.sm_theory.proofs.FactsLemmas.{fact_is_sorted, fact_is_below, equation, contrary, followed_from, equation_stands, contrary_stands, Gives, followed_gives, gives_itself, equation_moves, contrary_moves}

-- the first of two, or the second
pub or_else_from : {T : Type 0} (o p : Option T) (t : T) → or_other o p ≡ Some t → (o ≡ Some t) ⊎ (p ≡ Some t)
or_else_from None p t h = inr h
or_else_from (Some s) p t h = inl h

-- a formula that is added where a test is passed
pub formula_if_from : (test : Bool) (f : Assertion) (k : BranchFact) → formula_if test f ≡ Some k → (test ≡ true) × (Formal f ≡ k)
formula_if_from true f k h = (refl, cc)
formula_if_from false f k h = absurd cc

-- a fact that says that two terms are equal, or aren't
pub says_from : (o : Option Sides) (t u : Tree) → says_equal o t u ≡ true → (s : Sides) × (o ≡ Some s) × (s.left ≡ t) × (s.right ≡ u)
says_from None t u h = absurd cc
says_from (Some s) t u h =
    let p = and_parts (same_tree s.left t) (same_tree s.right u) h in
    (s, refl, (same_tree_is s.left t).0 p.0, (same_tree_is s.right u).0 p.1)

-- it says so on another branch too
pub says_moves : (o p : Option Sides) (t u : Tree) → Gives o p → says_equal o t u ≡ true → says_equal p t u ≡ true
says_moves None p t u now h = absurd cc
says_moves (Some s) p t u now h = subst (λ (q : Option Sides). says_equal q t u ≡ true) (sym (now s refl)) h

-- a formula that is added by a test is added by another test that is passed where the first is
pub formula_if_moves : (test other : Bool) (f : Assertion) → (test ≡ true → other ≡ true) → Gives (formula_if test f) (formula_if other f)
formula_if_moves true other f passes k h = rw (passes refl) h
formula_if_moves false other f passes k h = absurd cc

-- what turns round: an equation, or its contrary
sym_from : (facts : List BranchFact) (n : ℕ) (k : BranchFact) →
    or_other (followed (equation_at facts n) turned_equation) (followed (contrary_at facts n) turned_contrary) ≡ Some k →
    ((s : Sides) × (slice_get facts n ≡ Some (equation s)) × (Formal (Eq s.sort s.right s.left) ≡ k)) ⊎
    ((s : Sides) × (slice_get facts n ≡ Some (contrary s)) × (Formal (Ne s.sort s.right s.left) ≡ k))
sym_from facts n k h =
    ⊎_elim
    (λ (e : followed (equation_at facts n) turned_equation ≡ Some k).
    let p = followed_from (equation_at facts n) turned_equation k e in
    let is : Some (Formal (Eq p.0.sort p.0.right p.0.left)) ≡ Some k = p.2 in
    inl (p.0, equation_stands facts n p.0 p.1, cc))
    (λ (e : followed (contrary_at facts n) turned_contrary ≡ Some k).
    let p = followed_from (contrary_at facts n) turned_contrary k e in
    let is : Some (Formal (Ne p.0.sort p.0.right p.0.left)) ≡ Some k = p.2 in
    inr (p.0, contrary_stands facts n p.0 p.1, cc))
    (or_else_from (followed (equation_at facts n) turned_equation) (followed (contrary_at facts n) turned_contrary) k h)

-- two equations that join
pub trans_from : (facts : List BranchFact) (i j : ℕ) (k : BranchFact) →
    followed (equation_at facts i) (λ (s : Sides). followed (equation_at facts j) (chained s)) ≡ Some k →
    (s : Sides) × (r : Sides) × (slice_get facts i ≡ Some (equation s)) × (slice_get facts j ≡ Some (equation r)) × (s.right ≡ r.left) ×
    (Formal (Eq s.sort s.left r.right) ≡ k)
trans_from facts i j k h =
    let p = followed_from (equation_at facts i) (λ (s : Sides). followed (equation_at facts j) (chained s)) k h in
    let q = followed_from (equation_at facts j) (chained p.0) k p.2 in
    let r = formula_if_from (same_tree p.0.right q.0.left) (Eq p.0.sort p.0.left q.0.right) k q.2 in
    (p.0, q.0, equation_stands facts i p.0 p.1, equation_stands facts j q.0 q.1, (same_tree_is p.0.right q.0.left).0 r.0, r.1)

-- a contrary and an equation of its first side
pub subst_from : (facts : List BranchFact) (i j : ℕ) (k : BranchFact) →
    followed (contrary_at facts i) (λ (s : Sides). followed (equation_at facts j) (substituted s)) ≡ Some k →
    (s : Sides) × (r : Sides) × (slice_get facts i ≡ Some (contrary s)) × (slice_get facts j ≡ Some (equation r)) × (s.left ≡ r.left) ×
    (Formal (Ne s.sort r.right s.right) ≡ k)
subst_from facts i j k h =
    let p = followed_from (contrary_at facts i) (λ (s : Sides). followed (equation_at facts j) (substituted s)) k h in
    let q = followed_from (equation_at facts j) (substituted p.0) k p.2 in
    let r = formula_if_from (same_tree p.0.left q.0.left) (Ne p.0.sort q.0.right p.0.right) k q.2 in
    (p.0, q.0, contrary_stands facts i p.0 p.1, equation_stands facts j q.0 q.1, (same_tree_is p.0.left q.0.left).0 r.0, r.1)

-- one head, and equal arguments
pub cong_from : (sorts : Sorts) (facts : List BranchFact) (t u : Tree) (ns : List ℕ) (k : BranchFact) →
    equality_adds sorts facts (Cong t u ns) ≡ Some k →
    IsTrue (is_inhabited_list ns) × IsTrue (same_head t u) × IsTrue (say_equal facts ns (arguments_of t) (arguments_of u)) ×
    (Formal (Eq (tree_sort sorts t) t u) ≡ k)
cong_from sorts facts t u ns k h =
    let p = formula_if_from (is_inhabited_list ns && (same_head t u && say_equal facts ns (arguments_of t) (arguments_of u)))
    (Eq (tree_sort sorts t) t u) k h in
    let q = and_parts (is_inhabited_list ns) (same_head t u && say_equal facts ns (arguments_of t) (arguments_of u)) p.0 in
    let r = and_parts (same_head t u) (say_equal facts ns (arguments_of t) (arguments_of u)) q.1 in
    (q.0, r.0, r.1, p.1)

-- what turns round, of the fact at a place
pub turned_from : (sorts : Sorts) (facts : List BranchFact) (n : ℕ) (k : BranchFact) → equality_adds sorts facts (Sym n) ≡ Some k →
    ((s : Sides) × (slice_get facts n ≡ Some (equation s)) × (Formal (Eq s.sort s.right s.left) ≡ k)) ⊎
    ((s : Sides) × (slice_get facts n ≡ Some (contrary s)) × (Formal (Ne s.sort s.right s.left) ≡ k))
turned_from sorts facts n k h = sym_from facts n k h

-- what equality adds is sorted
pub equality_sorted : AddsWhatIsSorted equality
equality_sorted sorts facts (Refl t) k all named h =
    let is : Formal (Eq (tree_sort sorts t) t t) ≡ k = cc in subst (IsFactSorted sorts) is ((named, refl), (named, refl))
equality_sorted sorts facts (Sym n) k all named h =
    ⊎_elim
    (λ (p : (s : Sides) × (slice_get facts n ≡ Some (equation s)) × (Formal (Eq s.sort s.right s.left) ≡ k)).
    let g = fact_is_sorted sorts facts n (equation p.0) all p.1 in subst (IsFactSorted sorts) p.2 (g.1, g.0))
    (λ (p : (s : Sides) × (slice_get facts n ≡ Some (contrary s)) × (Formal (Ne s.sort s.right s.left) ≡ k)).
    let g = fact_is_sorted sorts facts n (contrary p.0) all p.1 in subst (IsFactSorted sorts) p.2 (g.1, g.0))
    (turned_from sorts facts n k h)
equality_sorted sorts facts (Trans i j) k all named h =
    let p = trans_from facts i j k h in
    let f = fact_is_sorted sorts facts i (equation p.0) all p.2 in
    let g = fact_is_sorted sorts facts j (equation p.1) all p.3 in
    subst (IsFactSorted sorts) p.5 (f.0, (g.1.0, g.1.1 ∙ sym g.0.1 ∙ ap (tree_sort sorts) (sym p.4) ∙ f.1.1))
equality_sorted sorts facts (Subst i j) k all named h =
    let p = subst_from facts i j k h in
    let f = fact_is_sorted sorts facts i (contrary p.0) all p.2 in
    let g = fact_is_sorted sorts facts j (equation p.1) all p.3 in
    subst (IsFactSorted sorts) p.5 ((g.1.0, g.1.1 ∙ sym g.0.1 ∙ ap (tree_sort sorts) (sym p.4) ∙ f.0.1), f.1)
equality_sorted sorts facts (Cong t u ns) k all named h =
    let p = cong_from sorts facts t u ns k h in
    subst (IsFactSorted sorts) p.3 ((named.0, refl), (named.1, sym (same_head_has_sort sorts t u p.1)))
equality_sorted sorts facts line k all named h = absurd cc

-- it names new values of earlier nodes alone
pub equality_below : AddsWhatIsBelow equality
equality_below sorts node facts (Refl t) k all named h =
    let is : Formal (Eq (tree_sort sorts t) t t) ≡ k = cc in subst (IsFactBelow node) is (named, named)
equality_below sorts node facts (Sym n) k all named h =
    ⊎_elim
    (λ (p : (s : Sides) × (slice_get facts n ≡ Some (equation s)) × (Formal (Eq s.sort s.right s.left) ≡ k)).
    let g = fact_is_below node facts n (equation p.0) all p.1 in subst (IsFactBelow node) p.2 (g.1, g.0))
    (λ (p : (s : Sides) × (slice_get facts n ≡ Some (contrary s)) × (Formal (Ne s.sort s.right s.left) ≡ k)).
    let g = fact_is_below node facts n (contrary p.0) all p.1 in subst (IsFactBelow node) p.2 (g.1, g.0))
    (turned_from sorts facts n k h)
equality_below sorts node facts (Trans i j) k all named h =
    let p = trans_from facts i j k h in
    let f = fact_is_below node facts i (equation p.0) all p.2 in
    let g = fact_is_below node facts j (equation p.1) all p.3 in
    subst (IsFactBelow node) p.5 (f.0, g.1)
equality_below sorts node facts (Subst i j) k all named h =
    let p = subst_from facts i j k h in
    let f = fact_is_below node facts i (contrary p.0) all p.2 in
    let g = fact_is_below node facts j (equation p.1) all p.3 in
    subst (IsFactBelow node) p.5 (g.1, f.1)
equality_below sorts node facts (Cong t u ns) k all named h =
    let p = cong_from sorts facts t u ns k h in subst (IsFactBelow node) p.3 (named.0, named.1)
equality_below sorts node facts line k all named h = absurd cc

-- facts that say that terms are equal say it on another branch
say_moves : (move : ℕ → ℕ) (facts others : List BranchFact) (ns : List ℕ) (ts us : List Tree) →
    AllByRecursion (StandsMoved move facts others) ns → say_equal facts ns ts us ≡ true → say_equal others (map move ns) ts us ≡ true
say_moves move facts others [] [] [] stand h = refl
say_moves move facts others (n ∷ ns) (t ∷ ts) (u ∷ us) stand h =
    let p = and_parts (says_equal (equation_at facts n) t u) (say_equal facts ns ts us) h in
    and_from (says_equal (equation_at others (move n)) t u) (say_equal others (map move ns) ts us)
    (says_moves (equation_at facts n) (equation_at others (move n)) t u (equation_moves move facts others n stand.0) p.0)
    (say_moves move facts others ns ts us stand.1 p.1)
say_moves move facts others ns ts us stand h = absurd cc

-- numbers are as many when they are moved
inhabited_moves : (move : ℕ → ℕ) (ns : List ℕ) → is_inhabited_list ns ≡ true → is_inhabited_list (map move ns) ≡ true
inhabited_moves move [] h = h
inhabited_moves move (n ∷ ns) h = refl

-- what is made of one fact is made of it on the other branch
through : (F : Option BranchFact → Option BranchFact) (o p : Option BranchFact) → F None ≡ None → Gives o p → Gives (F o) (F p)
through F None p none now k h = absurd cc
through F (Some f) p none now k h = subst (λ (q : Option BranchFact). F q ≡ Some k) (sym (now f refl)) h

-- the other way round, of what may be there
abbrev turned : Option BranchFact → Option BranchFact
turned o =
    or_other (followed (followed (followed o formula_in) equal_sides) turned_equation)
    (followed (followed (followed o formula_in) unequal_sides) turned_contrary)

-- another branch with the same facts gives it too
pub equality_anywhere : AddsAnywhere equality
equality_anywhere sorts move facts others (Refl t) k alike h = h
equality_anywhere sorts move facts others (Sym n) k alike h =
    through turned (slice_get facts n) (slice_get others (move n)) refl alike.0.0 k h
equality_anywhere sorts move facts others (Trans i j) k alike h =
    followed_gives (equation_at facts i) (equation_at others (move i)) (λ (s : Sides). followed (equation_at facts j) (chained s))
    (λ (s : Sides). followed (equation_at others (move j)) (chained s))
    (equation_moves move facts others i alike.0.0)
    (λ (s : Sides). followed_gives (equation_at facts j) (equation_at others (move j)) (chained s) (chained s)
    (equation_moves move facts others j alike.0.1.0) (λ (r : Sides). gives_itself (chained s r)))
    k h
equality_anywhere sorts move facts others (Subst i j) k alike h =
    followed_gives (contrary_at facts i) (contrary_at others (move i)) (λ (s : Sides). followed (equation_at facts j) (substituted s))
    (λ (s : Sides). followed (equation_at others (move j)) (substituted s))
    (contrary_moves move facts others i alike.0.0)
    (λ (s : Sides).
    followed_gives (equation_at facts j) (equation_at others (move j)) (substituted s) (substituted s)
    (equation_moves move facts others j alike.0.1.0) (λ (r : Sides). gives_itself (substituted s r)))
    k h
equality_anywhere sorts move facts others (Cong t u ns) k alike h =
    let p = cong_from sorts facts t u ns k h in
    let all = and_from (same_head t u) (say_equal others (map move ns) (arguments_of t) (arguments_of u)) p.1
    (say_moves move facts others ns (arguments_of t) (arguments_of u) alike.0 p.2) in
    let test = and_from (is_inhabited_list (map move ns))
    (same_head t u && say_equal others (map move ns) (arguments_of t) (arguments_of u)) (inhabited_moves move ns p.0) all in
    subst (λ (b : Bool). formula_if b (Eq (tree_sort sorts t) t u) ≡ Some k) (sym test) (ap Some p.3)
equality_anywhere sorts move facts others line k alike h = absurd cc
