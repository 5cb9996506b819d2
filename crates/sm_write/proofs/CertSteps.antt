-- Where a proof comes by a line of a certificate, and what of a certificate is left behind the line.
use Rattle.sm_write.proofs.Imports.{◌≡◌, ℕ, suc, ◌+◌, ◌≤◌, Bool, true, false, nat_lt, if◌then◌else◌, Option, Some, None, Ok, List, [], ◌∷◌, ◌++◌, length, refl, ap, ◌∙◌, arith, nat_tests, Copy, Sorts, SymbolicStore, Tree, or_other, BranchFact, CertificateLine, line_in, CertLine, adds, ways, is_split, Certificate, Next, Closed, Split, splits_above, first_bad, bad_line, TooManySplits, Closes, is_shallow, Cert, Pending, Branch, Progress, taken, IsGood, Names, AreNames, written, IsLineNamed, is_few}
use Rattle.sm_cert.specs.Certificates.{lines_in}
use Rattle.sm_write.proofs.FactsThere.{facts_there, one_no_split, none_no_split}
use Rattle.sm_write.proofs.StepLemmas.{cert_step, after_ways}
use Rattle.sm_write.proofs.WrittenLines.{written_names, written_splits}
use Rattle.sm_cert.proofs.CertificateMoves.{parts_none}
use Rattle.sm_cert.proofs.WaysTaken.{two_ways, one_way, no_way}

-- a certificate that closes a branch is good there, and not too deep
pub closes_good : (sorts : Sorts) (facts : List BranchFact) (c : Certificate) → Closes sorts facts c →
    IsGood sorts facts 0 c × (splits_above c ≤ 1000)
closes_good sorts facts c closes = of (nat_lt 1000 (splits_above c)) refl closes
  where
    good : (o : Option ℕ) → bad_line o ≡ None → o ≡ None
    good None e = refl
    good (Some n) e = absurd cc

    of : (b : Bool) → nat_lt 1000 (splits_above c) ≡ b →
        (if b then Some TooManySplits else bad_line (first_bad (adds sorts) sorts facts 0 c)) ≡ None →
        IsGood sorts facts 0 c × (splits_above c ≤ 1000)
    of true is e = absurd cc
    of false is e = (good (first_bad (adds sorts) sorts facts 0 c) e, grind (arith, nat_tests))

pub next_good : (sorts : Sorts) (facts : List BranchFact) (n : ℕ) (line : CertificateLine) (c : Certificate) →
    IsGood sorts facts n (Next line c) →
    (way : List BranchFact) × (ways sorts facts line ≡ Some (way ∷ [])) × IsGood sorts (facts ++ way) (suc n) c
next_good sorts facts n line c e =
    one_way (ways sorts facts line) n (λ (way : List BranchFact). first_bad (adds sorts) sorts (facts ++ way) (suc n) c) e

pub closed_good : (sorts : Sorts) (facts : List BranchFact) (n : ℕ) (line : CertificateLine) → IsGood sorts facts n (Closed line) →
    ways sorts facts line ≡ Some []
closed_good sorts facts n line e = no_way (ways sorts facts line) n e

pub split_good : (sorts : Sorts) (facts : List BranchFact) (n : ℕ) (line : CertificateLine) (c d : Certificate) →
    IsGood sorts facts n (Split line c d) →
    (way : List BranchFact) × (other : List BranchFact) × (ways sorts facts line ≡ Some (way ∷ other ∷ []))
    × IsGood sorts (facts ++ way) (suc n) c × IsGood sorts (facts ++ other) (suc n + lines_in c) d
split_good sorts facts n line c d e =
    let a = two_ways (ways sorts facts line) n
    (λ (way other : List BranchFact).
    or_other (first_bad (adds sorts) sorts (facts ++ way) (suc n) c)
    (first_bad (adds sorts) sorts (facts ++ other) (suc n + lines_in c) d)) e in
    let b = parts_none (first_bad (adds sorts) sorts (facts ++ a.0) (suc n) c)
    (first_bad (adds sorts) sorts (facts ++ a.1) (suc n + lines_in c) d) a.3 in
    (a.0, a.1, a.2, b.0, b.1)

few_splits : (b : Bool) (splits : ℕ) → suc splits ≤ 1000 → is_shallow (if b then suc splits else splits) ≡ true
few_splits true splits few = is_few (suc splits) few
few_splits false splits few = is_few splits (omega (arith, few))

-- it is taken, by its ways
line_taken : (sorts : Sorts) (trees : List Tree) (names : Names) (p : Progress) (stores : Copy → SymbolicStore) (facts : List BranchFact)
    (splits : ℕ) (rest : List Pending) (l : CertLine) (to : List (List BranchFact)) → AreNames trees names p.terms → IsLineNamed names l →
    p.pending ≡ Branch stores facts splits ∷ rest → ways sorts facts (line_in trees l) ≡ Some to →
    is_shallow (if is_split (written names l) then suc splits else splits) ≡ true →
    taken sorts p (Cert (written names l)) ≡ Ok (after_ways p stores facts splits rest (written names l) to)
line_taken sorts trees names p stores facts splits rest l to are named due goes few =
    cert_step sorts p stores facts splits rest (written names l) (line_in trees l) to due
    (written_names trees names p.terms are (length facts) l named (facts_there sorts facts (line_in trees l) to goes)) few goes

-- where the line doesn't split
unsplit : (b : Bool) (splits : ℕ) → b ≡ false → (if b then suc splits else splits) ≡ splits
unsplit true splits e = absurd cc
unsplit false splits e = refl

-- one way
pub next_taken : (sorts : Sorts) (trees : List Tree) (names : Names) (p : Progress) (stores : Copy → SymbolicStore) (facts : List BranchFact)
    (splits : ℕ) (rest : List Pending) (l : CertLine) (way : List BranchFact) → AreNames trees names p.terms → IsLineNamed names l →
    p.pending ≡ Branch stores facts splits ∷ rest → ways sorts facts (line_in trees l) ≡ Some (way ∷ []) → splits ≤ 1000 →
    taken sorts p (Cert (written names l)) ≡ Ok (record p { pending = Branch stores (facts ++ way) splits ∷ rest })
next_taken sorts trees names p stores facts splits rest l way are named due goes few =
    let plain = written_splits trees names l ∙ one_no_split sorts facts (line_in trees l) way goes in
    let same = unsplit (is_split (written names l)) splits plain in
    line_taken sorts trees names p stores facts splits rest l (way ∷ []) are named due goes (ap is_shallow same ∙ is_few splits few)
    ∙ ap (λ (d : ℕ). Ok (record p { pending = Branch stores (facts ++ way) d ∷ rest })) same

-- none
pub closed_taken : (sorts : Sorts) (trees : List Tree) (names : Names) (p : Progress) (stores : Copy → SymbolicStore) (facts : List BranchFact)
    (splits : ℕ) (rest : List Pending) (l : CertLine) → AreNames trees names p.terms → IsLineNamed names l →
    p.pending ≡ Branch stores facts splits ∷ rest → ways sorts facts (line_in trees l) ≡ Some [] → splits ≤ 1000 →
    taken sorts p (Cert (written names l)) ≡ Ok (record p { pending = rest })
closed_taken sorts trees names p stores facts splits rest l are named due goes few =
    let plain = written_splits trees names l ∙ none_no_split sorts facts (line_in trees l) goes in
    let same = unsplit (is_split (written names l)) splits plain in
    line_taken sorts trees names p stores facts splits rest l [] are named due goes (ap is_shallow same ∙ is_few splits few)

-- at most one split more
at_most : (b : Bool) (splits : ℕ) → (if b then suc splits else splits) ≤ suc splits
at_most true splits = omega arith
at_most false splits = omega arith

-- two
pub split_taken : (sorts : Sorts) (trees : List Tree) (names : Names) (p : Progress) (stores : Copy → SymbolicStore) (facts : List BranchFact)
    (splits : ℕ) (rest : List Pending) (l : CertLine) (way other : List BranchFact) → AreNames trees names p.terms → IsLineNamed names l →
    p.pending ≡ Branch stores facts splits ∷ rest → ways sorts facts (line_in trees l) ≡ Some (way ∷ other ∷ []) → suc splits ≤ 1000 →
    (d : ℕ) × (d ≤ suc splits)
    × (taken sorts p (Cert (written names l))
    ≡ Ok (record p { pending = Branch stores (facts ++ way) d ∷ Branch stores (facts ++ other) d ∷ rest }))
split_taken sorts trees names p stores facts splits rest l way other are named due goes few =
    let b = is_split (written names l) in (
      if b then suc splits else splits,
      at_most b splits,
      line_taken sorts trees names p stores facts splits rest l (way ∷ other ∷ []) are named due goes (few_splits b splits few),
    )
