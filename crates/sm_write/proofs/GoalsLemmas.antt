-- A goal's certificate closes the branch that is due for it.
use Rattle.sm_write.proofs.Imports.{◌≡◌, ℕ, ◌+◌, ◌<◌, List, [], ◌∷◌, ◌++◌, drop, get_or, map, subst, arith, drop_more, Assertion, TableValue, trees_in, Certificate, goal_branch, LeavesGoals, AreClosed, Seen, Stepped, Opens, ClosesBranch, denied, WriterValue}
use Rattle.sm_term.specs.Assertions.{No}
use Rattle.sm_write.proofs.CertSteps.{closes_good}
use Rattle.sm_write.proofs.SteppedLemmas.{stepped_twice}
use Rattle.sm_write.proofs.WalkedLemmas.{seen_kept}

-- one fewer
pub goals_more : (v : TableValue) (old mid new : WriterValue) (count n : ℕ) (cs : List Certificate) (c : Certificate)
    (left : List Certificate) → LeavesGoals v old mid count cs n (c ∷ left) → n < count → ClosesBranch v mid new c → LeavesGoals v old new count cs (n + 1) left
goals_more v old mid new count n cs c left first less closes s seen p st goals rest later at due len closed =
    let trees = trees_in v in
    let a = first s seen p st goals rest later at due len closed in
    let g = get_or goals n No in
    let next = drop (n + 1) goals in
    let here : drop n goals ≡ g ∷ next = drop_more goals n No (omega (arith, len, less)) in
    let others = map (goal_branch st) next ++ rest in
    let one : Stepped s trees old mid p (goal_branch st g ∷ others) =
    subst (λ (gs : List Assertion). Stepped s trees old mid p (map (goal_branch st) gs ++ rest)) here a.stepped in
    let shown : AreClosed s.sorts (Seen seen) (map (denied st.facts) (g ∷ next)) (c ∷ left) later =
    subst (λ (gs : List Assertion). AreClosed s.sorts (Seen seen) (map (denied st.facts) gs) (c ∷ left) later) here a.closed in
    let good = closes_good s.sorts (denied st.facts g) c shown.0 in
    let opens : Opens s v mid seen one.after st.stores (denied st.facts g) 0 0 others c = record {
      set = record {
        sorts = at.sorts;
        stands = one.stands;
        due = (goal_branch st g, (others, one.is));
        named = seen_kept trees old.names mid.names seen one.kept at.named;
      };
      due = one.is;
      fits = record { good = good.0; few = let few = good.1 in omega (arith, few); each = shown.1; short = shown.2 };
    } in
    record {
      stepped =
          stepped_twice s trees old mid new p (goal_branch st g ∷ others) others one
          (closes s seen one.after st.stores (denied st.facts g) 0 0 others opens);
      closed = shown.3;
    }

-- goals never outnumber their certificates
pub goals_short : (v : TableValue) (old mid : WriterValue) (count n : ℕ) (cs : List Certificate) → LeavesGoals v old mid count cs n [] →
    n < count → LeavesGoals v old mid count cs count []
goals_short v old mid count n cs first less s seen p st goals rest later at due len closed =
    let a = first s seen p st goals rest later at due len closed in
    let here : drop n goals ≡ get_or goals n No ∷ drop (n + 1) goals = drop_more goals n No (omega (arith, len, less)) in
    absurd (subst (λ (gs : List Assertion). AreClosed s.sorts (Seen seen) (map (denied st.facts) gs) [] later) here a.closed)
