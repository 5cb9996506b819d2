-- What the ways of a good line are.
use Rattle.sm_trim.proofs.Imports.{◌≡◌, ℕ, suc, Option, Some, None, List, [], ◌∷◌, length, refl, sym, subst, ◌∙◌, Sorts, BranchFact, CertificateLine, Both, facts_added, Ways, ways, ways_add_so_many, in_one_way, in_no_way, in_two_ways}
use Rattle.sm_theory.proofs.WaysLemmas.{both_line}

-- a line with one way goes on in one way where what follows has no bad line
pub in_one : (v : Ways) (n : ℕ) (next : List BranchFact → Option ℕ) (way : List BranchFact) → v ≡ Some (way ∷ []) → next way ≡ None →
    in_one_way v n next ≡ None
in_one v n next way e h = subst (λ (w : Ways). in_one_way w n next ≡ None) (sym e) h

pub in_none : (v : Ways) (n : ℕ) → v ≡ Some [] → in_no_way v n ≡ None
in_none v n e = subst (λ (w : Ways). in_no_way w n ≡ None) (sym e) refl

pub in_two : (v : Ways) (n : ℕ) (next : List BranchFact → List BranchFact → Option ℕ) (way other : List BranchFact) →
    v ≡ Some (way ∷ other ∷ []) → next way other ≡ None → in_two_ways v n next ≡ None
in_two v n next way other e h = subst (λ (w : Ways). in_two_ways w n next ≡ None) (sym e) h

-- the way of a line has as many facts as the line adds
pub one_long : (sorts : Sorts) (facts : List BranchFact) (line : CertificateLine) (way : List BranchFact) →
    ways sorts facts line ≡ Some (way ∷ []) → length way ≡ facts_added line
one_long sorts facts line way e = (ways_add_so_many sorts facts line (way ∷ []) e).0

-- a line that splits adds one in either part
adds_one : (sorts : Sorts) (facts : List BranchFact) (line : CertificateLine) (way other : List BranchFact) →
    ways sorts facts line ≡ Some (way ∷ other ∷ []) → facts_added line ≡ 1
adds_one sorts facts (Both n) way other e = absurd (let p = (both_line facts n (way ∷ other ∷ []) e).3 in cc)
adds_one sorts facts line way other e = refl

pub both_long : (sorts : Sorts) (facts : List BranchFact) (line : CertificateLine) (way other : List BranchFact) →
    ways sorts facts line ≡ Some (way ∷ other ∷ []) → (length way ≡ 1) × (length other ≡ 1)
both_long sorts facts line way other e =
    let long = ways_add_so_many sorts facts line (way ∷ other ∷ []) e in
    let one = adds_one sorts facts line way other e in
    (long.0 ∙ one, long.1.0 ∙ one)

-- no line of two parts is bad
pub adds_some : (line : CertificateLine) → (k : ℕ) × (facts_added line ≡ suc k)
adds_some (Both n) = (1, refl)
adds_some line = (0, refl)
