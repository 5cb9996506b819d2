-- A certificate that closes a branch shows that the facts of the branch can't all hold.
use Rattle.sm_cert.proofs.Imports.{◌≡◌, ℕ, suc, ◌+◌, Bool, true, false, nat_lt, if◌then◌else◌, Some, None, List, [], ◌∷◌, ◌++◌, refl, Sorts, BranchFact, IsFact, AreFacts, IsContradictory, CertificateLine, or_other, Ways, ways_with, IsFactSorted, AreFactsSorted, IsLineSorted, NoWayHolds, EachWay, ways_with_sorted, Certificate, Next, Closed, Split, lines_in, splits_above, in_one_way, in_no_way, in_two_ways, Theories, first_bad, TooManySplits, bad_line, refused, IsCertificateSorted}
use Rattle.std.proofs.Common.{Option}
use Rattle.sm_term.specs.Structures.{Structure}
use Rattle.sm_theory.proofs.WaysSound.{some_way_with_holds}
use Rattle.sm_cert.proofs.CertificateMoves.{parts_none}

-- facts of which both parts hold
pub facts_append : (m : Structure) (facts more : List BranchFact) → AreFacts m facts → AreFacts m more → AreFacts m (facts ++ more)
facts_append m [] more h g = g
facts_append m (k ∷ ks) more h g = (h.0, facts_append m ks more h.1 g)

-- facts of which both parts are sorted
pub sorted_append : (sorts : Sorts) (facts more : List BranchFact) → AreFactsSorted sorts facts → AreFactsSorted sorts more →
    AreFactsSorted sorts (facts ++ more)
sorted_append sorts [] more h g = g
sorted_append sorts (k ∷ ks) more h g = (h.0, sorted_append sorts ks more h.1 g)

-- what theories add holds, and is sorted
pub record AreSound (sorts : Sorts) (added : Theories) : Type 0 where
  pub holds :
      (m : Structure) (facts : List BranchFact) (line : CertificateLine) (k : BranchFact) → AreFactsSorted sorts facts →
      IsLineSorted sorts line → added facts line ≡ Some k → AreFacts m facts → IsFact m k
  pub sorted :
      (facts : List BranchFact) (line : CertificateLine) (k : BranchFact) → AreFactsSorted sorts facts → IsLineSorted sorts line →
      added facts line ≡ Some k → IsFactSorted sorts k

-- one way that fails
one_fails : (sorts : Sorts) (m : Structure) (w : Ways) (n : ℕ) (next : List BranchFact → Option ℕ) → in_one_way w n next ≡ None →
    ((to : List (List BranchFact)) → w ≡ Some to → NoWayHolds m to → ⊥) →
    ((to : List (List BranchFact)) → w ≡ Some to → EachWay (AreFactsSorted sorts) to) →
    ((way : List BranchFact) → next way ≡ None → AreFactsSorted sorts way → AreFacts m way → ⊥) → ⊥
one_fails sorts m None n next e some kept later = absurd cc
one_fails sorts m (Some []) n next e some kept later = absurd cc
one_fails sorts m (Some (way ∷ [])) n next e some kept later =
    some (way ∷ []) refl (later way e (kept (way ∷ []) refl).0, tt)
one_fails sorts m (Some (way ∷ other ∷ rest)) n next e some kept later = absurd cc

-- no way
none_fails : (m : Structure) (w : Ways) (n : ℕ) → in_no_way w n ≡ None →
    ((to : List (List BranchFact)) → w ≡ Some to → NoWayHolds m to → ⊥) → ⊥
none_fails m None n e some = absurd cc
none_fails m (Some []) n e some = some [] refl tt
none_fails m (Some (way ∷ rest)) n e some = absurd cc

-- two ways that fail
two_fail : (sorts : Sorts) (m : Structure) (w : Ways) (n : ℕ) (next : List BranchFact → List BranchFact → Option ℕ) →
    in_two_ways w n next ≡ None →
    ((to : List (List BranchFact)) → w ≡ Some to → NoWayHolds m to → ⊥) →
    ((to : List (List BranchFact)) → w ≡ Some to → EachWay (AreFactsSorted sorts) to) →
    ((way other : List BranchFact) → next way other ≡ None → AreFactsSorted sorts way → AreFactsSorted sorts other →
    (AreFacts m way → ⊥) × (AreFacts m other → ⊥)) → ⊥
two_fail sorts m None n next e some kept later = absurd cc
two_fail sorts m (Some []) n next e some kept later = absurd cc
two_fail sorts m (Some (way ∷ [])) n next e some kept later = absurd cc
two_fail sorts m (Some (way ∷ other ∷ [])) n next e some kept later =
    let good = kept (way ∷ other ∷ []) refl in
    let both = later way other e good.0 good.1.0 in
    some (way ∷ other ∷ []) refl (both.0, (both.1, tt))
two_fail sorts m (Some (way ∷ other ∷ third ∷ rest)) n next e some kept later = absurd cc

-- a certificate without a bad line closes the branch, whatever number its first line has
pub refutes : (sorts : Sorts) (added : Theories) (facts : List BranchFact) (n : ℕ) (c : Certificate) → AreSound sorts added →
    AreFactsSorted sorts facts → IsCertificateSorted sorts c →
    first_bad added sorts facts n c ≡ None → (m : Structure) → AreFacts m facts → ⊥
refutes sorts added facts n (Next line c) sound good terms e m held =
    one_fails sorts m (ways_with sorts facts (added facts line) line) n
    (λ (way : List BranchFact). first_bad added sorts (facts ++ way) (suc n) c) e
    (λ (to : List (List BranchFact)) (h : ways_with sorts facts (added facts line) line ≡ Some to).
    some_way_with_holds sorts m facts (added facts line) line to good
    (λ (k : BranchFact) (g : added facts line ≡ Some k). sound.holds m facts line k good terms.0 g held) h held)
    (λ (to : List (List BranchFact)) (h : ways_with sorts facts (added facts line) line ≡ Some to).
    ways_with_sorted sorts facts (added facts line) line to good terms.0
    (λ (k : BranchFact) (g : added facts line ≡ Some k). sound.sorted facts line k good terms.0 g) h)
    (λ (way : List BranchFact) (later : first_bad added sorts (facts ++ way) (suc n) c ≡ None) (fine : AreFactsSorted sorts way) (h : AreFacts m way).
    refutes sorts added (facts ++ way) (suc n) c sound (sorted_append sorts facts way good fine) terms.1 later m
    (facts_append m facts way held h))
refutes sorts added facts n (Closed line) sound good terms e m held =
    none_fails m (ways_with sorts facts (added facts line) line) n e
    (λ (to : List (List BranchFact)) (h : ways_with sorts facts (added facts line) line ≡ Some to).
    some_way_with_holds sorts m facts (added facts line) line to good
    (λ (k : BranchFact) (g : added facts line ≡ Some k). sound.holds m facts line k good terms g held) h held)
refutes sorts added facts n (Split line c d) sound good terms e m held =
    two_fail sorts m (ways_with sorts facts (added facts line) line) n
    (λ (way other : List BranchFact). or_other (first_bad added sorts (facts ++ way) (suc n) c)
    (first_bad added sorts (facts ++ other) (suc n + lines_in c) d)) e
    (λ (to : List (List BranchFact)) (h : ways_with sorts facts (added facts line) line ≡ Some to).
    some_way_with_holds sorts m facts (added facts line) line to good
    (λ (k : BranchFact) (g : added facts line ≡ Some k). sound.holds m facts line k good terms.0 g held) h held)
    (λ (to : List (List BranchFact)) (h : ways_with sorts facts (added facts line) line ≡ Some to).
    ways_with_sorted sorts facts (added facts line) line to good terms.0
    (λ (k : BranchFact) (g : added facts line ≡ Some k). sound.sorted facts line k good terms.0 g) h)
    (λ (way other : List BranchFact) (later : or_other (first_bad added sorts (facts ++ way) (suc n) c) (first_bad added sorts (facts ++ other) (suc n + lines_in c) d) ≡ None) (fine : AreFactsSorted sorts way) (fine_too : AreFactsSorted sorts other).
    let parts = parts_none (first_bad added sorts (facts ++ way) (suc n) c) (first_bad added sorts (facts ++ other) (suc n + lines_in c) d)
    later in (
      λ (h : AreFacts m way). refutes sorts added (facts ++ way) (suc n) c sound (sorted_append sorts facts way good fine) terms.1 parts.0 m
          (facts_append m facts way held h),
      λ (h : AreFacts m other). refutes sorts added (facts ++ other) (suc n + lines_in c) d sound
          (sorted_append sorts facts other good fine_too) terms.2 parts.1 m (facts_append m facts other held h),
    ))

-- a certificate that isn't refused has no bad line
pub none_bad : (added : Theories) (sorts : Sorts) (facts : List BranchFact) (c : Certificate) → refused added sorts facts c ≡ None →
    first_bad added sorts facts 0 c ≡ None
none_bad added sorts facts c e = of (nat_lt 1000 (splits_above c)) (first_bad added sorts facts 0 c) e
  where
    of : (deep : Bool) (o : Option ℕ) → (if deep then Some TooManySplits else bad_line o) ≡ None → o ≡ None
    of true o e = absurd cc
    of false None e = refl
    of false (Some n) e = absurd cc

-- a certificate that isn't refused closes its branch
pub closes : (sorts : Sorts) (added : Theories) (facts : List BranchFact) (c : Certificate) → AreSound sorts added →
    AreFactsSorted sorts facts → IsCertificateSorted sorts c →
    refused added sorts facts c ≡ None → IsContradictory facts
closes sorts added facts c sound good terms e = refutes sorts added facts 0 c sound good terms (none_bad added sorts facts c e)
