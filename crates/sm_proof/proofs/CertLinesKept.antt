-- A line of a certificate keeps a proof fine, and its branch is contradictory where each way in which it goes on is.
use Rattle.sm_proof.proofs.Imports.{◌≡◌, ℕ, suc, if◌then◌else◌, Some, Ok, List, [], ◌∷◌, ◌++◌, map, length, subst, sym, Copy, Sorts, Tree, Structure, IsSorted, IsStoreSorted, IsBelow, BranchFact, AreFacts, CertificateLine, AreFactsSorted, AreFactsBelow, IsLineSorted, IsLineBelow, is_split, facts_append, sorted_append, is_shallow, NumberedLine, found_or, named_line, line_head, BadNumber, Deep, First, Pending, Branch, Progress, branches_before, after_line}
use Rattle.std.proofs.Common.{Result}
use Rattle.sm_term.specs.Symbolic.{SymbolicStore}
use Rattle.sm_theory.specs.Ways.{ways}
use Rattle.sm_theory.specs.Laws.{NoWayHolds, EachWay}
use Rattle.sm_theory.proofs.ArithmeticSound.{arithmetic_holds}
use Rattle.sm_theory.proofs.ArithmeticKept.{arithmetic_sorted, arithmetic_below}
use Rattle.sm_theory.proofs.TheoriesLemmas.{some_way_holds_from, ways_are_sorted_from, ways_are_below_from}
use Rattle.sm_proof.specs.Named.{Word}
use Rattle.sm_proof.proofs.ProgressLemmas.{Each, IsTreeFine, IsPendingFine, IsFine, IsShown, GoesOn, each_append, each_parts, each_gives, found_from, tested_from, same_end, facts_below_append}
use Rattle.sm_proof.proofs.NamedKept.{named_line_fine}

-- the ways in which a branch goes on, as branches
abbrev branches : (Copy → SymbolicStore) → List BranchFact → ℕ → List (List BranchFact) → List Pending
branches stores facts splits to = map (λ (way : List BranchFact). Branch stores (facts ++ way) splits) to

-- they are fine where the branch and what it adds are
ways_fine : (sorts : Sorts) (k : ℕ) (stores : Copy → SymbolicStore) (facts : List BranchFact) (splits : ℕ) (to : List (List BranchFact)) →
    ((c : Copy) → IsStoreSorted sorts (stores c)) → ((c : Copy) (x : ℕ) → IsBelow k (stores c x)) →
    AreFactsSorted sorts facts → AreFactsBelow k facts → EachWay (AreFactsSorted sorts) to → EachWay (AreFactsBelow k) to →
    Each (IsPendingFine sorts k) (branches stores facts splits to)
ways_fine sorts k stores facts splits [] sorted below all named fine early = tt
ways_fine sorts k stores facts splits (way ∷ to) sorted below all named fine early = (
  (sorted, below, sorted_append sorts facts way all fine.0, facts_below_append k facts way named early.0),
  ways_fine sorts k stores facts splits to sorted below all named fine.1 early.1,
)

-- where they are contradictory, no way holds
ways_shown : (m : Structure) (stores : Copy → SymbolicStore) (facts : List BranchFact) (splits : ℕ) (to : List (List BranchFact)) →
    AreFacts m facts → Each IsShown (branches stores facts splits to) →
    NoWayHolds m to
ways_shown m stores facts splits [] hold all = tt
ways_shown m stores facts splits (way ∷ to) hold all =
    (λ (more : AreFacts m way). all.0 m (facts_append m facts way hold more), ways_shown m stores facts splits to hold all.1)

-- the ways in which a branch goes on, before what was pending
branch_goes : (sorts : Sorts) (p : Progress) (stores : Copy → SymbolicStore) (facts : List BranchFact) (splits over : ℕ)
    (rest : List Pending) (line : CertificateLine) (to : List (List BranchFact)) →
    p.pending ≡ Branch stores facts splits ∷ rest → IsFine sorts p → IsLineSorted sorts line → IsLineBelow p.nodes line →
    ways sorts facts line ≡ Some to →
    GoesOn sorts p (record p { pending = branches_before stores facts over to rest })
branch_goes sorts p stores facts splits over rest line to is fine sorted below e =
    let k = p.nodes in
    let pending = subst (Each (IsPendingFine sorts k)) is fine.pending in
    let here = pending.0 in
    let next = branches stores facts over to in
    record {
      fine = record {
        terms = fine.terms;
        forms = fine.forms;
        pending =
            each_append (IsPendingFine sorts k) next rest
            (ways_fine sorts k stores facts over to here.0 here.1 here.2 here.3
            (ways_are_sorted_from arithmetic_sorted sorts facts line to here.2 sorted e)
            (ways_are_below_from arithmetic_below sorts k facts line to here.3 below e))
            pending.1;
      };
      shown =
          λ (all : Each IsShown (next ++ rest)).
          let both = each_parts IsShown next rest all in
          subst (Each IsShown) (sym is) (
            λ (m : Structure) (hold : AreFacts m facts).
                some_way_holds_from arithmetic_holds sorts m facts line to here.2 sorted e hold
                (ways_shown m stores facts over to hold both.0),
            both.1,
          );
    }

-- a line of a certificate on the branch that is due
pub line_goes : (sorts : Sorts) (p : Progress) (stores : Copy → SymbolicStore) (facts : List BranchFact) (splits : ℕ) (rest : List Pending)
    (line : NumberedLine) (r : Progress) →
    p.pending ≡ Branch stores facts splits ∷ rest → IsFine sorts p →
    found_or (named_line p.terms (length facts) line) BadNumber (after_line sorts p stores facts splits rest line) ≡ Ok r →
    GoesOn sorts p r
line_goes sorts p stores facts splits rest line r is fine e =
    let k = p.nodes in
    let a = found_from (named_line p.terms (length facts) line) BadNumber (after_line sorts p stores facts splits rest line) r e in
    let over = if is_split line then suc splits else splits in
    let end : List (List BranchFact) → Result Progress Word =
    λ (to : List (List BranchFact)). Ok (record p { pending = branches_before stores facts over to rest }) in
    let b = tested_from (is_shallow over) Deep (found_or (ways sorts facts a.0) (First (line_head line)) end) r a.2 in
    let q = found_from (ways sorts facts a.0) (First (line_head line)) end r b.1 in
    let sorted = each_gives (IsTreeFine sorts k) (IsSorted sorts) p.terms (λ (t : Tree) (h : IsTreeFine sorts k t). h.0) fine.terms in
    let below = each_gives (IsTreeFine sorts k) (IsBelow k) p.terms (λ (t : Tree) (h : IsTreeFine sorts k t). h.1) fine.terms in
    subst (GoesOn sorts p) (same_end (record p { pending = branches_before stores facts over q.0 rest }) r q.2)
    (branch_goes sorts p stores facts splits over rest a.0 q.0 is fine
    (named_line_fine (IsSorted sorts) p.terms (length facts) line a.0 sorted a.1)
    (named_line_fine (IsBelow k) p.terms (length facts) line a.0 below a.1) q.1)
