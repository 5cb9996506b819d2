-- Branches: formulas as facts, and facts in front of others.
use Rattle.sm_theory.proofs.Imports.{◌↔◌, ℕ, List, [], ◌∷◌, ◌++◌, Sorts, Structure, Assertion, AreFormsSorted, BranchFact, AreFacts, as_facts, AreFactsSorted, AreFactsBelow}

-- they are sorted as facts exactly where they are sorted
pub known_sorted : (sorts : Sorts) (fs : List Assertion) → AreFactsSorted sorts (as_facts fs) ↔ AreFormsSorted sorts fs
known_sorted sorts [] = (λ (h : Unit {0}). h, λ (h : Unit {0}). h)
known_sorted sorts (f ∷ fs) =
    let rest = known_sorted sorts fs in
    (λ (h : AreFactsSorted sorts (as_facts (f ∷ fs))). (h.0, rest.0 h.1), λ (h : AreFormsSorted sorts (f ∷ fs)). (h.0, rest.1 h.1))

-- facts in front of others hold exactly where both do
pub facts_append : (m : Structure) (ks ls : List BranchFact) → AreFacts m (ks ++ ls) ↔ (AreFacts m ks × AreFacts m ls)
facts_append m [] ls = (λ (h : AreFacts m ls). (tt, h), λ (h : Unit {0} × AreFacts m ls). h.1)
facts_append m (k ∷ ks) ls =
    let rest = facts_append m ks ls in (
      λ (h : AreFacts m ((k ∷ ks) ++ ls)). let r = rest.0 h.1 in ((h.0, r.0), r.1),
      λ (h : AreFacts m (k ∷ ks) × AreFacts m ls). (h.0.0, rest.1 (h.0.1, h.1)),
    )

-- they are sorted exactly where both are
pub sorted_append : (sorts : Sorts) (ks ls : List BranchFact) →
    AreFactsSorted sorts (ks ++ ls) ↔ (AreFactsSorted sorts ks × AreFactsSorted sorts ls)
sorted_append sorts [] ls = (λ (h : AreFactsSorted sorts ls). (tt, h), λ (h : Unit {0} × AreFactsSorted sorts ls). h.1)
sorted_append sorts (k ∷ ks) ls =
    let rest = sorted_append sorts ks ls in (
      λ (h : AreFactsSorted sorts ((k ∷ ks) ++ ls)). let r = rest.0 h.1 in ((h.0, r.0), r.1),
      λ (h : AreFactsSorted sorts (k ∷ ks) × AreFactsSorted sorts ls). (h.0.0, rest.1 (h.0.1, h.1)),
    )

-- facts in front of others are below a node exactly where both are
pub below_append : (node : ℕ) (ks ls : List BranchFact) →
    AreFactsBelow node (ks ++ ls) ↔ (AreFactsBelow node ks × AreFactsBelow node ls)
below_append node [] ls = (λ (h : AreFactsBelow node ls). (tt, h), λ (h : Unit {0} × AreFactsBelow node ls). h.1)
below_append node (k ∷ ks) ls =
    let rest = below_append node ks ls in (
      λ (h : AreFactsBelow node ((k ∷ ks) ++ ls)). let r = rest.0 h.1 in ((h.0, r.0), r.1),
      λ (h : AreFactsBelow node (k ∷ ks) × AreFactsBelow node ls). (h.0.0, rest.1 (h.0.1, h.1)),
    )
