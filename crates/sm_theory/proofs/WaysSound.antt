-- Where the facts hold, not every way in which a branch goes on fails.
use Rattle.sm_theory.proofs.Imports.{◌≡◌, ℤ, pos, negsuc, ◌+ℤ◌, true, false, ◌&&◌, IsTrue, Option, Some, List, [], ◌∷◌, subst, sym, arith, ◌<ℤ◌, int_eq, not-true, Decides-int_eq, ints, SameAs, Sorts, Sort, Num, number, Satisfies, sum_of_parts, Kind, has_no_part, fails, Tree, Structure, meaning, No, Ne, And, Or, Holds, same_tree_is, BranchFact, Formal, Sum, number_meant, IsFact, AreFacts, CertificateLine, Both, Either, Cases, Order, Close, Clash, cannot_hold, ways_with, AreFactsSorted, NoWayHolds}
use Rattle.sm_num.specs.declared.kind.Kind.TheVariants as kind
use Rattle.sm_theory.proofs.FactsLemmas.{fact_holds, fact_is_sorted, equation, contrary, equation_stands}
use Rattle.sm_theory.proofs.CongruenceSound.{same_itself}
use Rattle.sm_theory.proofs.ElementsLemmas.{says_apart}
use Rattle.sm_theory.proofs.WaysLemmas.{adding_from, both_line, either_line, order_line, cases_line, close_line, clash_line}
use Rattle.sm_lemmas.proofs.Tests.{neither_less}

-- a number that fails a kind isn't as it says
fails_means : (k : Kind) (c : ℤ) → fails k c ≡ true → Satisfies k (pos 0 +ℤ c) → ⊥
fails_means kind.Le (pos n) h holds = grind (arith, ints)
fails_means kind.Le (negsuc n) h holds = absurd cc
fails_means kind.Eq z h holds =
    let e : z ≡ pos 0 = omega (arith, ints) in
    let there : int_eq z (pos 0) ≡ true = (Decides-int_eq z (pos 0)).1 e in
    let missing : int_eq z (pos 0) ≡ false = not-true (int_eq z (pos 0)) h in
    cc

-- a form without parts that doesn't hold
contradiction_of : (v : Tree → ℤ) (parts : List (Tree × ℤ)) (c : ℤ) (k : Kind) → (has_no_part parts && fails k c) ≡ true →
    Satisfies k (sum_of_parts v parts +ℤ c) → ⊥
contradiction_of v [] c k h holds = fails_means k c h holds
contradiction_of v (p ∷ ps) c k h holds = cc

-- a fact that can't hold doesn't
pub cannot_hold_means : (m : Structure) (k : BranchFact) → IsTrue (cannot_hold k) → IsFact m k → ⊥
cannot_hold_means m (Formal No) h holds = holds
cannot_hold_means m (Formal (Ne sort t u)) h holds =
    holds (subst (λ (v : Tree). SameAs sort (meaning m t) (meaning m v)) ((same_tree_is t u).0 h) (same_itself sort (meaning m t)))
cannot_hold_means m (Formal f) h holds = cc
cannot_hold_means m (Sum f) h holds = contradiction_of (number_meant m) f.parts f.constant f.kind h holds

-- where the facts hold, and what theories add does, not every way fails
pub some_way_with_holds : (sorts : Sorts) (m : Structure) (facts : List BranchFact) (added : Option BranchFact) (line : CertificateLine)
    (to : List (List BranchFact)) →
    AreFactsSorted sorts facts → ((k : BranchFact) → added ≡ Some k → IsFact m k) → ways_with sorts facts added line ≡ Some to →
    AreFacts m facts → NoWayHolds m to → ⊥
some_way_with_holds sorts m facts added (Both n) to all law h hold never =
    let p = both_line facts n to h in
    let g = fact_holds m facts n (Formal (And p.0 p.1)) hold p.2 in
    (subst (NoWayHolds m) (sym p.3) never).0 (g.0, (g.1, tt))
some_way_with_holds sorts m facts added (Either n) to all law h hold never =
    let p = either_line facts n to h in
    let g = fact_holds m facts n (Formal (Or p.0 p.1)) hold p.2 in
    let fail = subst (NoWayHolds m) (sym p.3) never in
    g (λ (a : Holds m p.0). fail.0 (a, tt)) (λ (b : Holds m p.1). fail.1.0 (b, tt))
some_way_with_holds sorts m facts added (Cases t u) to all law h hold never =
    let fail = subst (NoWayHolds m) (sym (cases_line sorts t u to h).2) never in
    fail.1.0 (λ (e : SameAs Num (meaning m t) (meaning m u)). fail.0 (e, tt), tt)
some_way_with_holds sorts m facts added (Order n) to all law h hold never =
    let p = order_line facts n to h in
    let s = p.0 in
    let fail = subst (NoWayHolds m) (sym p.3) never in
    subst (λ (o : Sort). SameAs o (meaning m s.left) (meaning m s.right) → ⊥) p.2 (fact_holds m facts n (contrary s) hold p.1)
    (neither_less (number (meaning m s.left)) (number (meaning m s.right))
    (λ (a : number (meaning m s.left) <ℤ number (meaning m s.right)). fail.0 (a, tt))
    (λ (b : number (meaning m s.right) <ℤ number (meaning m s.left)). fail.1.0 (b, tt)))
some_way_with_holds sorts m facts added (Close n) to all law h hold never =
    let p = close_line facts n to h in cannot_hold_means m p.0 p.2 (fact_holds m facts n p.0 hold p.1)
some_way_with_holds sorts m facts added (Clash i j) to all law h hold never =
    let p = clash_line facts i j to h in
    let s = p.0 in
    let stands = equation_stands facts i s p.1 in
    let g = fact_is_sorted sorts facts i (equation s) all stands in
    says_apart sorts m facts j s.left s.right all hold p.2
    (subst (λ (o : Sort). SameAs o (meaning m s.left) (meaning m s.right)) (sym g.0.1) (fact_holds m facts i (equation s) hold stands))
some_way_with_holds sorts m facts added line to all law h hold never =
    let p = adding_from added to h in
    (subst (NoWayHolds m) (sym p.2) never).0 (law p.0 p.1, tt)
