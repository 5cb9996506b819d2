-- Facts that a line names: what is so of all facts of a branch is so of each, and a fact stands on
-- another branch under another number.
use Rattle.sm_theory.proofs.Imports.{◌≡◌, ℕ, zero, suc, false, IsTrue, slice_get, Option, Some, None, List, [], ◌∷◌, refl, subst, ap, ◌∙◌, AllByRecursion, Sorts, Structure, Assertion, Ne, Linear, Tree, BranchFact, Formal, Sum, IsFact, AreFacts, CertificateLine, followed, formula_in, form_in, formula_at, form_at, Sides, equal_sides, unequal_sides, equation_at, contrary_at, IsFactSorted, AreFactsSorted, IsFactBelow, AreFactsBelow, facts_named, reads_all, StandsMoved, StandAmong, ReadsAlike}
use Rattle.sm_term.specs.Assertions.{Eq}

-- each fact of a branch holds where all do
pub fact_holds : (m : Structure) (facts : List BranchFact) (n : ℕ) (k : BranchFact) → AreFacts m facts → slice_get facts n ≡ Some k → IsFact m k
fact_holds m [] n k all is = absurd cc
fact_holds m (f ∷ fs) zero k all is = let same : f ≡ k = cc in subst (IsFact m) same all.0
fact_holds m (f ∷ fs) (suc n) k all is = fact_holds m fs n k all.1 is

-- each is sorted where all are
pub fact_is_sorted : (sorts : Sorts) (facts : List BranchFact) (n : ℕ) (k : BranchFact) → AreFactsSorted sorts facts → slice_get facts n ≡ Some k →
    IsFactSorted sorts k
fact_is_sorted sorts [] n k all is = absurd cc
fact_is_sorted sorts (f ∷ fs) zero k all is = let same : f ≡ k = cc in subst (IsFactSorted sorts) same all.0
fact_is_sorted sorts (f ∷ fs) (suc n) k all is = fact_is_sorted sorts fs n k all.1 is

-- each names new values of earlier nodes alone where all do
pub fact_is_below : (node : ℕ) (facts : List BranchFact) (n : ℕ) (k : BranchFact) → AreFactsBelow node facts → slice_get facts n ≡ Some k →
    IsFactBelow node k
fact_is_below node [] n k all is = absurd cc
fact_is_below node (f ∷ fs) zero k all is = let same : f ≡ k = cc in subst (IsFactBelow node) same all.0
fact_is_below node (f ∷ fs) (suc n) k all is = fact_is_below node fs n k all.1 is

-- an equation, told by its sides
abbrev pub equation : Sides → BranchFact
equation s = Formal (Eq s.sort s.left s.right)

-- its contrary
abbrev pub contrary : Sides → BranchFact
contrary s = Formal (Ne s.sort s.left s.right)

-- what is followed to an end was there
pub followed_from : {S T : Type 0} (o : Option S) (next : S → Option T) (t : T) → followed o next ≡ Some t →
    (s : S) × (o ≡ Some s) × (next s ≡ Some t)
followed_from None next t h = absurd cc
followed_from (Some s) next t h = (s, refl, h)

-- a formula that is found is the fact
formula_is : (k : BranchFact) (f : Assertion) → formula_in k ≡ Some f → k ≡ Formal f
formula_is (Formal g) f h = let same : g ≡ f = cc in ap Formal same
formula_is (Sum g) f h = absurd cc

-- a form that is found is the fact
form_is : (k : BranchFact) (f : Linear Tree) → form_in k ≡ Some f → k ≡ Sum f
form_is (Formal g) f h = absurd cc
form_is (Sum g) f h = let same : g ≡ f = cc in ap Sum same

-- a formula that has sides is the equation of these
equation_is : (f : Assertion) (s : Sides) → equal_sides f ≡ Some s → Formal f ≡ equation s
equation_is (Eq sort t u) s h = let same : record { sort = sort; left = t; right = u } ≡ s = cc in ap equation same
equation_is f s h = absurd cc

-- a formula that has unequal sides is the contrary of the equation of these
contrary_is : (f : Assertion) (s : Sides) → unequal_sides f ≡ Some s → Formal f ≡ contrary s
contrary_is (Ne sort t u) s h = let same : record { sort = sort; left = t; right = u } ≡ s = cc in ap contrary same
contrary_is f s h = absurd cc

-- fact n, where a formula is found there
pub formula_stands : (facts : List BranchFact) (n : ℕ) (f : Assertion) → formula_at facts n ≡ Some f → slice_get facts n ≡ Some (Formal f)
formula_stands facts n f h =
    let p = followed_from (slice_get facts n) formula_in f h in p.1 ∙ ap Some (formula_is p.0 f p.2)

-- where a form is
pub form_stands : (facts : List BranchFact) (n : ℕ) (f : Linear Tree) → form_at facts n ≡ Some f → slice_get facts n ≡ Some (Sum f)
form_stands facts n f h =
    let p = followed_from (slice_get facts n) form_in f h in p.1 ∙ ap Some (form_is p.0 f p.2)

-- where an equation is
pub equation_stands : (facts : List BranchFact) (n : ℕ) (s : Sides) → equation_at facts n ≡ Some s → slice_get facts n ≡ Some (equation s)
equation_stands facts n s h =
    let p = followed_from (formula_at facts n) equal_sides s h in formula_stands facts n p.0 p.1 ∙ ap Some (equation_is p.0 s p.2)

-- where the contrary of one is
pub contrary_stands : (facts : List BranchFact) (n : ℕ) (s : Sides) → contrary_at facts n ≡ Some s → slice_get facts n ≡ Some (contrary s)
contrary_stands facts n s h =
    let p = followed_from (formula_at facts n) unequal_sides s h in formula_stands facts n p.0 p.1 ∙ ap Some (contrary_is p.0 s p.2)

-- what the first has the second has too
abbrev pub Gives : {T : Type 0} → Option T → Option T → Type 0
Gives {T} o p = (t : T) → o ≡ Some t → p ≡ Some t

-- what is followed from more, and further, has more
pub followed_gives : {S T : Type 0} (o p : Option S) (f g : S → Option T) → Gives o p → ((s : S) → Gives (f s) (g s)) →
    Gives (followed o f) (followed p g)
followed_gives None p f g now later t h = absurd cc
followed_gives (Some s) p f g now later t h = rw (now s refl) (later s t h)

-- what is itself
pub gives_itself : {T : Type 0} (o : Option T) → Gives o o
gives_itself o t h = h

-- a formula that is found is found on the other branch
pub formula_moves : (move : ℕ → ℕ) (facts others : List BranchFact) (n : ℕ) → StandsMoved move facts others n →
    Gives (formula_at facts n) (formula_at others (move n))
formula_moves move facts others n stand =
    followed_gives (slice_get facts n) (slice_get others (move n)) formula_in formula_in stand
    (λ (k : BranchFact). gives_itself (formula_in k))

-- a form that is found is found on the other branch
pub form_moves : (move : ℕ → ℕ) (facts others : List BranchFact) (n : ℕ) → StandsMoved move facts others n →
    Gives (form_at facts n) (form_at others (move n))
form_moves move facts others n stand =
    followed_gives (slice_get facts n) (slice_get others (move n)) form_in form_in stand (λ (k : BranchFact). gives_itself (form_in k))

-- an equation
pub equation_moves : (move : ℕ → ℕ) (facts others : List BranchFact) (n : ℕ) → StandsMoved move facts others n →
    Gives (equation_at facts n) (equation_at others (move n))
equation_moves move facts others n stand =
    followed_gives (formula_at facts n) (formula_at others (move n)) equal_sides equal_sides (formula_moves move facts others n stand)
    (λ (f : Assertion). gives_itself (equal_sides f))

-- the contrary of an equation that is found is found on the other branch
pub contrary_moves : (move : ℕ → ℕ) (facts others : List BranchFact) (n : ℕ) → StandsMoved move facts others n →
    Gives (contrary_at facts n) (contrary_at others (move n))
contrary_moves move facts others n stand =
    followed_gives (formula_at facts n) (formula_at others (move n)) unequal_sides unequal_sides (formula_moves move facts others n stand)
    (λ (f : Assertion). gives_itself (unequal_sides f))

-- what is so of all numbers is so of each of some
each_number : (P : ℕ → Type 0) → ((n : ℕ) → P n) → (ns : List ℕ) → AllByRecursion P ns
each_number P all [] = tt
each_number P all (n ∷ ns) = (all n, each_number P all ns)

-- where all facts stand on the other branch, a line that doesn't read all reads the same
pub among_alike : (move : ℕ → ℕ) (facts others : List BranchFact) (line : CertificateLine) → StandAmong move facts others →
    reads_all line ≡ false → ReadsAlike move facts others line
among_alike move facts others line stand few =
    (each_number (StandsMoved move facts others) stand (facts_named line), λ (all : IsTrue (reads_all line)). absurd cc)
