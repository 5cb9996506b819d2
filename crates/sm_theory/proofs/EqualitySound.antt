-- What equality adds holds wherever the facts do.
use Rattle.sm_theory.proofs.Imports.{◌≡◌, ℕ, slice_get, IsTrue, Some, List, [], ◌∷◌, ⊎_elim, subst, sym, ap, ◌∙◌, and_parts, SameAs, Sorts, Sort, Tree, Structure, meaning, Ne, tree_sort, arguments_of, BranchFact, Formal, IsFact, AreFacts, Refl, Sym, Trans, Subst, Cong, Sides, equation_at, says_equal, say_equal, AreFactsSorted, AddsWhatHolds, equality}
use Rattle.sm_term.specs.Assertions.{Eq}
use Rattle.sm_theory.proofs.FactsLemmas.{fact_holds, fact_is_sorted, equation, contrary, equation_stands}
use Rattle.sm_theory.proofs.EqualityLemmas.{says_from, turned_from, trans_from, subst_from, cong_from}
use Rattle.sm_theory.proofs.CongruenceSound.{same_itself, same_turned, same_joined, Alike, cong_means}

-- the sort of two equations that share a term
one_sort : (sorts : Sorts) (s r : Sort) (t u : Tree) → t ≡ u → tree_sort sorts t ≡ s → tree_sort sorts u ≡ r → r ≡ s
one_sort sorts s r t u same first second = sym second ∙ ap (tree_sort sorts) (sym same) ∙ first

-- a fact that says that two terms are equal
pub says_means : (sorts : Sorts) (m : Structure) (facts : List BranchFact) (n : ℕ) (t u : Tree) → AreFactsSorted sorts facts → AreFacts m facts →
    IsTrue (says_equal (equation_at facts n) t u) →
    SameAs (tree_sort sorts t) (meaning m t) (meaning m u)
says_means sorts m facts n t u all hold h =
    let p = says_from (equation_at facts n) t u h in
    let stands = equation_stands facts n p.0 p.1 in
    let sorted = fact_is_sorted sorts facts n (equation p.0) all stands in
    subst (λ (v : Tree). SameAs (tree_sort sorts t) (meaning m t) (meaning m v)) p.3
    (subst (λ (v : Tree). SameAs (tree_sort sorts v) (meaning m v) (meaning m p.0.right)) p.2
    (subst (λ (s : Sort). SameAs s (meaning m p.0.left) (meaning m p.0.right)) (sym sorted.0.1)
    (fact_holds m facts n (equation p.0) hold stands)))

-- facts that say that terms are equal in order
say_means : (sorts : Sorts) (m : Structure) (facts : List BranchFact) (ns : List ℕ) (ts us : List Tree) → AreFactsSorted sorts facts →
    AreFacts m facts → IsTrue (say_equal facts ns ts us) →
    Alike sorts m ts us
say_means sorts m facts [] [] [] all hold h = tt
say_means sorts m facts (n ∷ ns) (t ∷ ts) (u ∷ us) all hold h =
    let p = and_parts (says_equal (equation_at facts n) t u) (say_equal facts ns ts us) h in
    (says_means sorts m facts n t u all hold p.0, say_means sorts m facts ns ts us all hold p.1)
say_means sorts m facts ns ts us all hold h = absurd cc

-- what equality adds holds wherever the facts do
pub equality_holds : AddsWhatHolds equality
equality_holds sorts m facts (Refl t) k all named h hold =
    let is : Formal (Eq (tree_sort sorts t) t t) ≡ k = cc in subst (IsFact m) is (same_itself (tree_sort sorts t) (meaning m t))
equality_holds sorts m facts (Sym n) k all named h hold =
    ⊎_elim
    (λ (p : (s : Sides) × (slice_get facts n ≡ Some (equation s)) × (Formal (Eq s.sort s.right s.left) ≡ k)).
    subst (IsFact m) p.2 (same_turned p.0.sort (meaning m p.0.left) (meaning m p.0.right) (fact_holds m facts n (equation p.0) hold p.1)))
    (λ (p : (s : Sides) × (slice_get facts n ≡ Some (contrary s)) × (Formal (Ne s.sort s.right s.left) ≡ k)).
    subst (IsFact m) p.2
    (λ (e : SameAs p.0.sort (meaning m p.0.right) (meaning m p.0.left)).
    fact_holds m facts n (contrary p.0) hold p.1 (same_turned p.0.sort (meaning m p.0.right) (meaning m p.0.left) e)))
    (turned_from sorts facts n k h)
equality_holds sorts m facts (Trans i j) k all named h hold =
    let p = trans_from facts i j k h in
    let s = p.0 in
    let r = p.1 in
    let f = fact_is_sorted sorts facts i (equation s) all p.2 in
    let g = fact_is_sorted sorts facts j (equation r) all p.3 in
    let second : SameAs s.sort (meaning m r.left) (meaning m r.right) =
    subst (λ (o : Sort). SameAs o (meaning m r.left) (meaning m r.right)) (one_sort sorts s.sort r.sort s.right r.left p.4 f.1.1 g.0.1)
    (fact_holds m facts j (equation r) hold p.3) in
    subst (IsFact m) p.5
    (same_joined s.sort (meaning m s.left) (meaning m s.right) (meaning m r.right) (fact_holds m facts i (equation s) hold p.2)
    (subst (λ (t : Tree). SameAs s.sort (meaning m t) (meaning m r.right)) (sym p.4) second))
equality_holds sorts m facts (Subst i j) k all named h hold =
    let p = subst_from facts i j k h in
    let s = p.0 in
    let r = p.1 in
    let f = fact_is_sorted sorts facts i (contrary s) all p.2 in
    let g = fact_is_sorted sorts facts j (equation r) all p.3 in
    let second : SameAs s.sort (meaning m r.left) (meaning m r.right) =
    subst (λ (o : Sort). SameAs o (meaning m r.left) (meaning m r.right)) (one_sort sorts s.sort r.sort s.left r.left p.4 f.0.1 g.0.1)
    (fact_holds m facts j (equation r) hold p.3) in
    subst (IsFact m) p.5
    (λ (e : SameAs s.sort (meaning m r.right) (meaning m s.right)).
    fact_holds m facts i (contrary s) hold p.2
    (same_joined s.sort (meaning m s.left) (meaning m r.right) (meaning m s.right)
    (subst (λ (t : Tree). SameAs s.sort (meaning m t) (meaning m r.right)) (sym p.4) second)
    e))
equality_holds sorts m facts (Cong t u ns) k all named h hold =
    let p = cong_from sorts facts t u ns k h in
    subst (IsFact m) p.3 (cong_means sorts m t u p.1 named.0 (say_means sorts m facts ns (arguments_of t) (arguments_of u) all hold p.2))
equality_holds sorts m facts line k all named h hold = absurd cc
