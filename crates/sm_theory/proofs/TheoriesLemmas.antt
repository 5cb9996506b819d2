-- Theories together, and the laws of the ways in which a branch goes on, from those of theories.
use Rattle.sm_theory.proofs.Imports.{◌≡◌, Option, Some, None, List, ⊎_elim, refl, subst, sym, BranchFact, Refl, Sym, Trans, Subst, Cong, Same, Apart, Hit, Miss, Lin, Elim, Tight, Exact, or_other, equality_adds, arithmetic_adds, with_exact, adds, moved_line, TheoryAdds, AddsWhatHolds, AddsWhatIsSorted, AddsWhatIsBelow, AddsAnywhere, SomeWayHolds, WaysAreSorted, WaysAreBelow, WaysAddSoMany, WaysMove, arithmetic, equality, arrays}
use Rattle.sm_theory.proofs.FactsLemmas.{Gives}
use Rattle.sm_theory.proofs.EqualityLemmas.{or_else_from, equality_sorted, equality_below, equality_anywhere}
use Rattle.sm_theory.proofs.EqualitySound.{equality_holds}
use Rattle.sm_theory.proofs.ElementsLemmas.{arrays_hold, arrays_sorted, arrays_below, arrays_anywhere}
use Rattle.sm_theory.proofs.ExactLineSound.{with_exact_holds, with_exact_sorted, with_exact_below}
use Rattle.sm_theory.proofs.WaysLemmas.{ways_with_sorted, ways_with_below, ways_with_long, ways_with_move}
use Rattle.sm_theory.proofs.WaysSound.{some_way_with_holds}

-- what the first theory adds, or else the second
abbrev pub one_of : TheoryAdds → TheoryAdds → TheoryAdds
one_of a b sorts facts line = or_other (a sorts facts line) (b sorts facts line)

-- what one of two adds holds wherever the facts do
pub one_of_holds : (a b : TheoryAdds) → AddsWhatHolds a → AddsWhatHolds b → AddsWhatHolds (one_of a b)
one_of_holds a b first second sorts m facts line k all named h hold =
    ⊎_elim
    (λ (e : a sorts facts line ≡ Some k). first sorts m facts line k all named e hold)
    (λ (e : b sorts facts line ≡ Some k). second sorts m facts line k all named e hold)
    (or_else_from (a sorts facts line) (b sorts facts line) k h)

-- it is sorted
pub one_of_sorted : (a b : TheoryAdds) → AddsWhatIsSorted a → AddsWhatIsSorted b → AddsWhatIsSorted (one_of a b)
one_of_sorted a b first second sorts facts line k all named h =
    ⊎_elim
    (λ (e : a sorts facts line ≡ Some k). first sorts facts line k all named e)
    (λ (e : b sorts facts line ≡ Some k). second sorts facts line k all named e)
    (or_else_from (a sorts facts line) (b sorts facts line) k h)

-- it names new values of earlier nodes alone
pub one_of_below : (a b : TheoryAdds) → AddsWhatIsBelow a → AddsWhatIsBelow b → AddsWhatIsBelow (one_of a b)
one_of_below a b first second sorts node facts line k all named h =
    ⊎_elim
    (λ (e : a sorts facts line ≡ Some k). first sorts node facts line k all named e)
    (λ (e : b sorts facts line ≡ Some k). second sorts node facts line k all named e)
    (or_else_from (a sorts facts line) (b sorts facts line) k h)

-- what the three theories add holds wherever the facts do
pub adds_hold : AddsWhatHolds arithmetic → AddsWhatHolds adds
adds_hold law =
    one_of_holds equality (one_of (with_exact arithmetic) arrays) equality_holds
    (one_of_holds (with_exact arithmetic) arrays (with_exact_holds arithmetic law) arrays_hold)

-- it is sorted
pub adds_sorted : AddsWhatIsSorted arithmetic → AddsWhatIsSorted adds
adds_sorted law =
    one_of_sorted equality (one_of (with_exact arithmetic) arrays) equality_sorted
    (one_of_sorted (with_exact arithmetic) arrays (with_exact_sorted arithmetic law) arrays_sorted)

-- it names new values of earlier nodes alone
pub adds_below : AddsWhatIsBelow arithmetic → AddsWhatIsBelow adds
adds_below law =
    one_of_below equality (one_of (with_exact arithmetic) arrays) equality_below
    (one_of_below (with_exact arithmetic) arrays (with_exact_below arithmetic law) arrays_below)

-- what only the first can add
pub first_alone : (o p : Option BranchFact) → Gives o p → Gives (or_other o None) (or_other p None)
first_alone None p now k h = absurd cc
first_alone (Some f) p now k h = subst (λ (q : Option BranchFact). or_other q None ≡ Some k) (sym (now f refl)) h

-- another branch on which the line reads the same gives it too: of each line only one theory adds a fact
pub adds_anywhere : AddsAnywhere arithmetic → AddsAnywhere adds
adds_anywhere law sorts move facts others (Refl t) k alike h = h
adds_anywhere law sorts move facts others (Sym n) k alike h =
    first_alone (equality_adds sorts facts (Sym n)) (equality_adds sorts others (Sym (move n)))
    (λ (f : BranchFact) (e : equality_adds sorts facts (Sym n) ≡ Some f). equality_anywhere sorts move facts others (Sym n) f alike e)
    k h
adds_anywhere law sorts move facts others (Trans i j) k alike h =
    first_alone (equality_adds sorts facts (Trans i j)) (equality_adds sorts others (Trans (move i) (move j)))
    (λ (f : BranchFact) (e : equality_adds sorts facts (Trans i j) ≡ Some f). equality_anywhere sorts move facts others (Trans i j) f alike e)
    k h
adds_anywhere law sorts move facts others (Subst i j) k alike h =
    first_alone (equality_adds sorts facts (Subst i j)) (equality_adds sorts others (Subst (move i) (move j)))
    (λ (f : BranchFact) (e : equality_adds sorts facts (Subst i j) ≡ Some f). equality_anywhere sorts move facts others (Subst i j) f alike e)
    k h
adds_anywhere law sorts move facts others (Cong t u ns) k alike h =
    first_alone (equality_adds sorts facts (Cong t u ns)) (equality_adds sorts others (moved_line move (Cong t u ns)))
    (λ (f : BranchFact) (e : equality_adds sorts facts (Cong t u ns) ≡ Some f). equality_anywhere sorts move facts others (Cong t u ns) f alike
    e)
    k h
adds_anywhere law sorts move facts others (Same t u) k alike h = h
adds_anywhere law sorts move facts others (Apart t u) k alike h = h
adds_anywhere law sorts move facts others (Lin n) k alike h =
    first_alone (arithmetic_adds sorts facts (Lin n)) (arithmetic_adds sorts others (Lin (move n)))
    (λ (f : BranchFact) (e : arithmetic_adds sorts facts (Lin n) ≡ Some f). law sorts move facts others (Lin n) f alike e)
    k h
adds_anywhere law sorts move facts others (Elim i j t) k alike h =
    first_alone (arithmetic_adds sorts facts (Elim i j t)) (arithmetic_adds sorts others (Elim (move i) (move j) t))
    (λ (f : BranchFact) (e : arithmetic_adds sorts facts (Elim i j t) ≡ Some f). law sorts move facts others (Elim i j t) f alike e)
    k h
adds_anywhere law sorts move facts others (Tight n) k alike h =
    first_alone (arithmetic_adds sorts facts (Tight n)) (arithmetic_adds sorts others (Tight (move n)))
    (λ (f : BranchFact) (e : arithmetic_adds sorts facts (Tight n) ≡ Some f). law sorts move facts others (Tight n) f alike e)
    k h
adds_anywhere law sorts move facts others (Exact n) k alike h =
    subst (λ (there : List BranchFact). adds sorts there (Exact n) ≡ Some k) (alike.1 refl) h
adds_anywhere law sorts move facts others (Hit t n) k alike h = arrays_anywhere sorts move facts others (Hit t n) k alike h
adds_anywhere law sorts move facts others (Miss t u n) k alike h = arrays_anywhere sorts move facts others (Miss t u n) k alike h
adds_anywhere law sorts move facts others line k alike h = absurd cc

-- where the facts hold, not every way in which the branch goes on fails
pub some_way_holds_from : AddsWhatHolds arithmetic → SomeWayHolds
some_way_holds_from law sorts m facts line to all named h hold never =
    some_way_with_holds sorts m facts (adds sorts facts line) line to all
    (λ (k : BranchFact) (e : adds sorts facts line ≡ Some k). adds_hold law sorts m facts line k all named e hold)
    h hold never

-- what a way adds is sorted
pub ways_are_sorted_from : AddsWhatIsSorted arithmetic → WaysAreSorted
ways_are_sorted_from law sorts facts line to all named h =
    ways_with_sorted sorts facts (adds sorts facts line) line to all named
    (λ (k : BranchFact) (e : adds sorts facts line ≡ Some k). adds_sorted law sorts facts line k all named e) h

-- what a way adds names new values of earlier nodes alone
pub ways_are_below_from : AddsWhatIsBelow arithmetic → WaysAreBelow
ways_are_below_from law sorts node facts line to all named h =
    ways_with_below sorts node facts (adds sorts facts line) line to all named
    (λ (k : BranchFact) (e : adds sorts facts line ≡ Some k). adds_below law sorts node facts line k all named e) h

-- each way has as many facts as the line adds
pub ways_add_so_many : WaysAddSoMany
ways_add_so_many sorts facts line to h = ways_with_long sorts facts (adds sorts facts line) line to h

-- the ways are the same on another branch on which the line reads the same
pub ways_move_from : AddsAnywhere arithmetic → WaysMove
ways_move_from law sorts move facts others line to alike h =
    ways_with_move sorts move facts others (adds sorts facts line) (adds sorts others (moved_line move line)) line to alike
    (λ (k : BranchFact) (e : adds sorts facts line ≡ Some k). adds_anywhere law sorts move facts others line k alike e)
    h
