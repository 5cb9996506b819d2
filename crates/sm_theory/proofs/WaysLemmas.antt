-- Ways in which a branch goes on, where theories add what is told: from what they come, that they are
-- sorted and below as the facts are, and that they are the same on another branch with the facts.
use Rattle.sm_theory.proofs.Imports.{◌≡◌, ℕ, Bool, true, false, ◌&&◌, if◌then◌else◌, slice_get, IsTrue, Option, Some, None, List, [], ◌∷◌, length, refl, subst, sym, ap, ◌∙◌, and_parts, Sorts, Num, Tree, Assertion, Ne, Lt, And, Or, tree_sort, HasSort, same_sort, same_sort_is, BranchFact, Formal, CertificateLine, Both, Either, Cases, Order, Close, Clash, followed, Sides, formula_at, equation_at, contrary_at, says_equal, is_numeric, adding, splitting, closing_if, both_parts, either_part, ordered, cannot_hold, ways_with, IsFactSorted, AreFactsSorted, IsFactBelow, AreFactsBelow, IsLineSorted, IsLineBelow, moved_line, ReadsAlike, facts_added, EachWay}
use Rattle.sm_term.specs.Assertions.{Eq}
use Rattle.sm_theory.proofs.FactsLemmas.{fact_is_sorted, fact_is_below, contrary, followed_from, formula_stands, contrary_stands, Gives, followed_gives, gives_itself, formula_moves, equation_moves, contrary_moves}
use Rattle.sm_theory.proofs.EqualityLemmas.{says_moves}

-- one way with one fact
abbrev pub one_way : BranchFact → List (List BranchFact)
one_way k = (k ∷ []) ∷ []

-- two ways, with a formula each
abbrev pub two_ways : Assertion → Assertion → List (List BranchFact)
two_ways p q = (Formal p ∷ []) ∷ (Formal q ∷ []) ∷ []

-- a fact that is added was there
pub adding_from : (added : Option BranchFact) (to : List (List BranchFact)) → adding added ≡ Some to → (k : BranchFact) × (added ≡ Some k) ×
    (one_way k ≡ to)
adding_from None to h = absurd cc
adding_from (Some k) to h = (k, refl, cc)

-- a branch is closed where a test is passed
pub closing_from : (test : Bool) (to : List (List BranchFact)) → closing_if test ≡ Some to → (test ≡ true) × ([] ≡ to)
closing_from true to h = (refl, cc)
closing_from false to h = absurd cc

-- the formula with two parts
pub both_from : (f : Assertion) (to : List (List BranchFact)) → both_parts f ≡ Some to → (p : Assertion) × (q : Assertion) × (f ≡ And p q) ×
    ((Formal p ∷ Formal q ∷ []) ∷ [] ≡ to)
both_from (And p q) to h = (p, q, refl, cc)
both_from f to h = absurd cc

-- the one of which a part holds
pub either_from : (f : Assertion) (to : List (List BranchFact)) → either_part f ≡ Some to → (p : Assertion) × (q : Assertion) × (f ≡ Or p q) ×
    (two_ways p q ≡ to)
either_from (Or p q) to h = (p, q, refl, cc)
either_from f to h = absurd cc

-- two ways where a test is passed
pub splitting_from : (test : Bool) (p q : Assertion) (to : List (List BranchFact)) → (if test then splitting p q else None) ≡ Some to →
    (test ≡ true) × (two_ways p q ≡ to)
splitting_from true p q to h = (refl, cc)
splitting_from false p q to h = absurd cc

-- a term that passes as a number is one
pub is_number_is : (sorts : Sorts) (t : Tree) → IsTrue (is_numeric sorts t) → tree_sort sorts t ≡ Num
is_number_is sorts t h = (same_sort_is (tree_sort sorts t) Num).0 h

-- a line that adds a conjunction's parts: of a fact of the branch
pub both_line : (facts : List BranchFact) (n : ℕ) (to : List (List BranchFact)) → followed (formula_at facts n) both_parts ≡ Some to →
    (p : Assertion) × (q : Assertion) × (slice_get facts n ≡ Some (Formal (And p q))) × ((Formal p ∷ Formal q ∷ []) ∷ [] ≡ to)
both_line facts n to h =
    let a = followed_from (formula_at facts n) both_parts to h in
    let b = both_from a.0 to a.2 in
    (b.0, b.1, formula_stands facts n a.0 a.1 ∙ ap (λ (f : Assertion). Some (Formal f)) b.2, b.3)

-- one that splits by a disjunction
pub either_line : (facts : List BranchFact) (n : ℕ) (to : List (List BranchFact)) → followed (formula_at facts n) either_part ≡ Some to →
    (p : Assertion) × (q : Assertion) × (slice_get facts n ≡ Some (Formal (Or p q))) × (two_ways p q ≡ to)
either_line facts n to h =
    let a = followed_from (formula_at facts n) either_part to h in
    let b = either_from a.0 to a.2 in
    (b.0, b.1, formula_stands facts n a.0 a.1 ∙ ap (λ (f : Assertion). Some (Formal f)) b.2, b.3)

-- one that orders numbers that aren't equal
pub order_line : (facts : List BranchFact) (n : ℕ) (to : List (List BranchFact)) → followed (contrary_at facts n) ordered ≡ Some to →
    (s : Sides) × (slice_get facts n ≡ Some (contrary s)) × (s.sort ≡ Num) × (two_ways (Lt s.left s.right) (Lt s.right s.left) ≡ to)
order_line facts n to h =
    let a = followed_from (contrary_at facts n) ordered to h in
    let b = splitting_from (same_sort a.0.sort Num) (Lt a.0.left a.0.right) (Lt a.0.right a.0.left) to a.2 in
    (a.0, contrary_stands facts n a.0 a.1, (same_sort_is a.0.sort Num).0 b.0, b.1)

-- one that splits by whether two numbers are equal
pub cases_line : (sorts : Sorts) (t u : Tree) (to : List (List BranchFact)) →
    (if is_numeric sorts t && is_numeric sorts u then splitting (Eq Num t u) (Ne Num t u) else None) ≡ Some to →
    (tree_sort sorts t ≡ Num) × (tree_sort sorts u ≡ Num) × (two_ways (Eq Num t u) (Ne Num t u) ≡ to)
cases_line sorts t u to h =
    let a = splitting_from (is_numeric sorts t && is_numeric sorts u) (Eq Num t u) (Ne Num t u) to h in
    let b = and_parts (is_numeric sorts t) (is_numeric sorts u) a.0 in
    (is_number_is sorts t b.0, is_number_is sorts u b.1, a.1)

-- one that closes by a fact
pub close_line : (facts : List BranchFact) (n : ℕ) (to : List (List BranchFact)) →
    followed (slice_get facts n) (λ (k : BranchFact). closing_if (cannot_hold k)) ≡ Some to →
    (k : BranchFact) × (slice_get facts n ≡ Some k) × IsTrue (cannot_hold k) × ([] ≡ to)
close_line facts n to h =
    let a = followed_from (slice_get facts n) (λ (k : BranchFact). closing_if (cannot_hold k)) to h in
    let b = closing_from (cannot_hold a.0) to a.2 in
    (a.0, a.1, b.0, b.1)

-- one that closes by a fact and its contrary
pub clash_line : (facts : List BranchFact) (i j : ℕ) (to : List (List BranchFact)) →
    followed (equation_at facts i) (λ (s : Sides). closing_if (says_equal (contrary_at facts j) s.left s.right)) ≡ Some to →
    (s : Sides) × (equation_at facts i ≡ Some s) × IsTrue (says_equal (contrary_at facts j) s.left s.right) × ([] ≡ to)
clash_line facts i j to h =
    let a = followed_from (equation_at facts i) (λ (s : Sides). closing_if (says_equal (contrary_at facts j) s.left s.right)) to h in
    let b = closing_from (says_equal (contrary_at facts j) a.0.left a.0.right) to a.2 in
    (a.0, a.1, b.0, b.1)

-- the ways are sorted, where what theories add is
pub ways_with_sorted : (sorts : Sorts) (facts : List BranchFact) (added : Option BranchFact) (line : CertificateLine) (to : List (List BranchFact)) →
    AreFactsSorted sorts facts → IsLineSorted sorts line → ((k : BranchFact) → added ≡ Some k → IsFactSorted sorts k) →
    ways_with sorts facts added line ≡ Some to → EachWay (AreFactsSorted sorts) to
ways_with_sorted sorts facts added (Both n) to all named law h =
    let p = both_line facts n to h in
    let g = fact_is_sorted sorts facts n (Formal (And p.0 p.1)) all p.2 in
    subst (EachWay (AreFactsSorted sorts)) p.3 ((g.0, (g.1, tt)), tt)
ways_with_sorted sorts facts added (Either n) to all named law h =
    let p = either_line facts n to h in
    let g = fact_is_sorted sorts facts n (Formal (Or p.0 p.1)) all p.2 in
    subst (EachWay (AreFactsSorted sorts)) p.3 ((g.0, tt), ((g.1, tt), tt))
ways_with_sorted sorts facts added (Cases t u) to all named law h =
    let p = cases_line sorts t u to h in
    let g : HasSort sorts Num t × HasSort sorts Num u = ((named.0, p.0), (named.1, p.1)) in
    subst (EachWay (AreFactsSorted sorts)) p.2 ((g, tt), ((g, tt), tt))
ways_with_sorted sorts facts added (Order n) to all named law h =
    let p = order_line facts n to h in
    let s = p.0 in
    let g = fact_is_sorted sorts facts n (contrary s) all p.1 in
    let left : HasSort sorts Num s.left = (g.0.0, g.0.1 ∙ p.2) in
    let right : HasSort sorts Num s.right = (g.1.0, g.1.1 ∙ p.2) in
    subst (EachWay (AreFactsSorted sorts)) p.3 (((left, right), tt), (((right, left), tt), tt))
ways_with_sorted sorts facts added (Close n) to all named law h = subst (EachWay (AreFactsSorted sorts)) (close_line facts n to h).3 tt
ways_with_sorted sorts facts added (Clash i j) to all named law h = subst (EachWay (AreFactsSorted sorts)) (clash_line facts i j to h).3 tt
ways_with_sorted sorts facts added line to all named law h =
    let p = adding_from added to h in subst (EachWay (AreFactsSorted sorts)) p.2 ((law p.0 p.1, tt), tt)

-- they name new values of earlier nodes alone, where what theories add does
pub ways_with_below : (sorts : Sorts) (node : ℕ) (facts : List BranchFact) (added : Option BranchFact) (line : CertificateLine)
    (to : List (List BranchFact)) →
    AreFactsBelow node facts → IsLineBelow node line → ((k : BranchFact) → added ≡ Some k → IsFactBelow node k) →
    ways_with sorts facts added line ≡ Some to → EachWay (AreFactsBelow node) to
ways_with_below sorts node facts added (Both n) to all named law h =
    let p = both_line facts n to h in
    let g = fact_is_below node facts n (Formal (And p.0 p.1)) all p.2 in
    subst (EachWay (AreFactsBelow node)) p.3 ((g.0, (g.1, tt)), tt)
ways_with_below sorts node facts added (Either n) to all named law h =
    let p = either_line facts n to h in
    let g = fact_is_below node facts n (Formal (Or p.0 p.1)) all p.2 in
    subst (EachWay (AreFactsBelow node)) p.3 ((g.0, tt), ((g.1, tt), tt))
ways_with_below sorts node facts added (Cases t u) to all named law h =
    subst (EachWay (AreFactsBelow node)) (cases_line sorts t u to h).2 ((named, tt), ((named, tt), tt))
ways_with_below sorts node facts added (Order n) to all named law h =
    let p = order_line facts n to h in
    let g = fact_is_below node facts n (contrary p.0) all p.1 in
    subst (EachWay (AreFactsBelow node)) p.3 (((g.0, g.1), tt), (((g.1, g.0), tt), tt))
ways_with_below sorts node facts added (Close n) to all named law h = subst (EachWay (AreFactsBelow node)) (close_line facts n to h).3 tt
ways_with_below sorts node facts added (Clash i j) to all named law h =
    subst (EachWay (AreFactsBelow node)) (clash_line facts i j to h).3 tt
ways_with_below sorts node facts added line to all named law h =
    let p = adding_from added to h in subst (EachWay (AreFactsBelow node)) p.2 ((law p.0 p.1, tt), tt)

-- a way has as many facts as a line adds
abbrev pub IsSoLong : CertificateLine → List BranchFact → Type 0
IsSoLong line way = length way ≡ facts_added line

-- each way does
pub ways_with_long : (sorts : Sorts) (facts : List BranchFact) (added : Option BranchFact) (line : CertificateLine)
    (to : List (List BranchFact)) →
    ways_with sorts facts added line ≡ Some to → EachWay (IsSoLong line) to
ways_with_long sorts facts added (Both n) to h = subst (EachWay (IsSoLong (Both n))) (both_line facts n to h).3 (refl, tt)
ways_with_long sorts facts added (Either n) to h = subst (EachWay (IsSoLong (Either n))) (either_line facts n to h).3 (refl, (refl, tt))
ways_with_long sorts facts added (Cases t u) to h = subst (EachWay (IsSoLong (Cases t u))) (cases_line sorts t u to h).2 (refl, (refl, tt))
ways_with_long sorts facts added (Order n) to h = subst (EachWay (IsSoLong (Order n))) (order_line facts n to h).3 (refl, (refl, tt))
ways_with_long sorts facts added (Close n) to h = subst (EachWay (IsSoLong (Close n))) (close_line facts n to h).3 tt
ways_with_long sorts facts added (Clash i j) to h = subst (EachWay (IsSoLong (Clash i j))) (clash_line facts i j to h).3 tt
ways_with_long sorts facts added line to h = subst (EachWay (IsSoLong line)) (adding_from added to h).2 (refl, tt)

-- what is added on one branch and on another
pub adding_gives : (added other : Option BranchFact) → Gives added other → Gives (adding added) (adding other)
adding_gives None other now to h = absurd cc
adding_gives (Some k) other now to h = subst (λ (o : Option BranchFact). adding o ≡ Some to) (sym (now k refl)) h

-- a branch that is closed is closed where the test is passed too
pub closing_gives : (test other : Bool) → (test ≡ true → other ≡ true) → Gives (closing_if test) (closing_if other)
closing_gives true other passes to h = rw (passes refl) h
closing_gives false other passes to h = absurd cc

-- the ways are the same on another branch on which the line reads the same, where theories add there what they add here
pub ways_with_move : (sorts : Sorts) (move : ℕ → ℕ) (facts others : List BranchFact) (added other : Option BranchFact) (line : CertificateLine)
    (to : List (List BranchFact)) →
    ReadsAlike move facts others line → ((k : BranchFact) → added ≡ Some k → other ≡ Some k) →
    ways_with sorts facts added line ≡ Some to → ways_with sorts others other (moved_line move line) ≡ Some to
ways_with_move sorts move facts others added other (Both n) to alike law h =
    followed_gives (formula_at facts n) (formula_at others (move n)) both_parts both_parts (formula_moves move facts others n alike.0.0)
    (λ (f : Assertion). gives_itself (both_parts f)) to h
ways_with_move sorts move facts others added other (Either n) to alike law h =
    followed_gives (formula_at facts n) (formula_at others (move n)) either_part either_part (formula_moves move facts others n alike.0.0)
    (λ (f : Assertion). gives_itself (either_part f)) to h
ways_with_move sorts move facts others added other (Cases t u) to alike law h = h
ways_with_move sorts move facts others added other (Order n) to alike law h =
    followed_gives (contrary_at facts n) (contrary_at others (move n)) ordered ordered (contrary_moves move facts others n alike.0.0)
    (λ (s : Sides). gives_itself (ordered s)) to h
ways_with_move sorts move facts others added other (Close n) to alike law h =
    followed_gives (slice_get facts n) (slice_get others (move n)) (λ (k : BranchFact). closing_if (cannot_hold k))
    (λ (k : BranchFact). closing_if (cannot_hold k)) alike.0.0
    (λ (k : BranchFact). gives_itself (closing_if (cannot_hold k)))
    to h
ways_with_move sorts move facts others added other (Clash i j) to alike law h =
    followed_gives (equation_at facts i) (equation_at others (move i))
    (λ (s : Sides). closing_if (says_equal (contrary_at facts j) s.left s.right))
    (λ (s : Sides). closing_if (says_equal (contrary_at others (move j)) s.left s.right))
    (equation_moves move facts others i alike.0.0)
    (λ (s : Sides).
    closing_gives (says_equal (contrary_at facts j) s.left s.right) (says_equal (contrary_at others (move j)) s.left s.right)
    (says_moves (contrary_at facts j) (contrary_at others (move j)) s.left s.right (contrary_moves move facts others j alike.0.1.0)))
    to h
ways_with_move sorts move facts others added other line to alike law h = adding_gives added other law to h
