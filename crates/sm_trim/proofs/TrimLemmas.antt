-- What a trimmed tree is, clause by clause.
use Rattle.sm_trim.proofs.Imports.{◌≡◌, ◌≤◌, ℕ, List, [], length, Result, Ok, Err, IfOk, sym, subst, Contains, Sorts, Tree, BranchFact, Certificate, Closes, lines_in, certificate_in, lines_of, AreLinesWithin, CertTree, IsUsed, terms_in, EachNamesFew, closed_up, pruned}
use Rattle.sm_trim.proofs.TrimmedCloses.{trimmed_closes}
use Rattle.sm_trim.proofs.TrimmedUsed.{trimmed_is_used}
use Rattle.sm_trim.proofs.UsedStays.{used_stays}
use Rattle.sm_trim.proofs.TrimmedSmaller.{trimmed_smaller}
use Rattle.sm_trim.proofs.TrimmedWithin.{trimmed_within}

-- a tree is what trimming makes of another
abbrev pub IsTrimmed : ℕ → CertTree → CertTree → Type 0
IsTrimmed at tree other = (trees : List Tree) → certificate_in trees other ≡ closed_up [] at (pruned at (certificate_in trees tree))

-- what holds of each trimmed tree holds of the one that is made
pub ok_so : {E : Type 0} (r : Result CertTree E) (at : ℕ) (tree : CertTree) (P : CertTree → Type 0) →
    ((trees : List Tree) → IfOk r (λ (t : CertTree). certificate_in trees t ≡ closed_up [] at (pruned at (certificate_in trees tree)))) →
    ((t : CertTree) → IsTrimmed at tree t → P t) → IfOk r P
ok_so (Ok t) at tree P made so = so t made
ok_so (Err e) at tree P made so = tt

pub closes_so : (sorts : Sorts) (trees : List Tree) (facts : List BranchFact) (at : ℕ) (tree t : CertTree) → length facts ≡ at →
    Closes sorts facts (certificate_in trees tree) → IsTrimmed at tree t → Closes sorts facts (certificate_in trees t)
closes_so sorts trees facts at tree t count closes same =
    subst (Closes sorts facts) (sym (same trees)) (trimmed_closes sorts facts at (certificate_in trees tree) count closes)

pub used_so : (trees : List Tree) (at : ℕ) (tree t : CertTree) → IsTrimmed at tree t → IsUsed at (certificate_in trees t)
used_so trees at tree t same = subst (IsUsed at) (sym (same trees)) (trimmed_is_used at (certificate_in trees tree))

pub stays_so : (trees : List Tree) (at : ℕ) (tree t : CertTree) → IsUsed at (certificate_in trees tree) → IsTrimmed at tree t →
    certificate_in trees t ≡ certificate_in trees tree
stays_so trees at tree t used same =
    subst (λ (c : Certificate). c ≡ certificate_in trees tree) (sym (same trees)) (used_stays at (certificate_in trees tree) used)

pub terms_so : (trees : List Tree) (term : Tree) (at : ℕ) (tree t : CertTree) → IsTrimmed at tree t →
    Contains (terms_in (certificate_in trees t)) term → Contains (terms_in (certificate_in trees tree)) term
terms_so trees term at tree t same h =
    (trimmed_smaller at (certificate_in trees tree)).terms term (subst (λ (c : Certificate). Contains (terms_in c) term) (same trees) h)

pub shorter_so : (trees : List Tree) (at : ℕ) (tree t : CertTree) → IsTrimmed at tree t →
    lines_in (certificate_in trees t) ≤ lines_in (certificate_in trees tree)
shorter_so trees at tree t same =
    subst (λ (c : Certificate). lines_in c ≤ lines_in (certificate_in trees tree)) (sym (same trees))
    (trimmed_smaller at (certificate_in trees tree)).lines

pub few_so : (trees : List Tree) (most bound at : ℕ) (tree t : CertTree) → EachNamesFew most bound (certificate_in trees tree) →
    IsTrimmed at tree t → EachNamesFew most bound (certificate_in trees t)
few_so trees most bound at tree t few same =
    subst (EachNamesFew most bound) (sym (same trees)) ((trimmed_smaller at (certificate_in trees tree)).few most bound few)

pub within_so : (count at : ℕ) (tree t : CertTree) → AreLinesWithin count (lines_of tree) → IsTrimmed at tree t →
    AreLinesWithin count (lines_of t)
within_so count at tree t within same = trimmed_within count at tree t same within
