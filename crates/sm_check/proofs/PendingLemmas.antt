-- What is pending, where the path is cut and grows.
use Rattle.sm_check.proofs.Imports.{◌≡◌, ℕ, zero, suc, ◌+◌, ◌<◌, ◌≤◌, Option, Some, None, List, [], ◌∷◌, ◌++◌, length, take, get_or, reverse, refl, sym, ap, ◌∙◌, subst, arith, append_assoc, reverse-append, take-append-le, length-append, Sorts, Tree, SymStore, PerCopy, Formulas, Rc, Assertion, NumberedFormula, numbered, assertion_in, IsFormulaWithin, Formula, BranchFact, Formal, as_facts, IsFactSorted, AreFactsSorted, FactStands, AllStand, Fact, stand_append, sorted_append, forms_in, SymState, IsFormReady, AreFormsReady, Pending, HasFacts, DueStands, WaitingStands, AllPending, AllWait, PendingStands, IsMadeReady, shared_by, AreWaitingReady, Waiting}
use Rattle.std.specs.declared.alloc.Global.{Global}
use Rattle.sm_theory.specs.declared.fact.Fact.TheVariants as fact
use Rattle.sm_proof.specs.Passing as plain
use Rattle.sm_check.specs.declared.pending.Due.TheVariants as due
use Rattle.sm_check.specs.declared.pending.Waiting.TheVariants as waits
use Rattle.sm_check.specs.Pending.{Due}

-- lists cut
pub take_twice : {X : Type 0} (m n : ℕ) (xs : List X) → m ≤ n → take m (take n xs) ≡ take m xs
take_twice zero n xs h = refl
take_twice (suc m) zero xs h = absurd (omega arith)
take_twice (suc m) (suc n) [] h = refl
take_twice (suc m) (suc n) (x ∷ xs) h = let less : m ≤ n = omega arith in ap (λ (l : List _). x ∷ l) (take_twice m n xs less)

pub take_length : {X : Type 0} (n : ℕ) (xs : List X) → n ≤ length xs → length (take n xs) ≡ n
take_length zero xs h = refl
take_length (suc n) [] h = absurd (omega arith)
take_length (suc n) (x ∷ xs) h = let less : n ≤ length xs = omega arith in let e = take_length n xs less in omega arith

pub take_whole : {X : Type 0} (xs : List X) → take (length xs) xs ≡ xs
take_whole [] = refl
take_whole (x ∷ xs) = ap (λ (l : List _). x ∷ l) (take_whole xs)

-- the front of a list is as it was where more is put behind what it was cut to
pub take_grown : {X : Type 0} (n : ℕ) (xs more : List X) → n ≤ length xs → take n (take n xs ++ more) ≡ take n xs
take_grown n xs more h =
    let long : n ≤ length (take n xs) = (let e = take_length n xs h in omega arith) in
    take-append-le n (take n xs) more long ∙ take_twice n n xs (omega arith)

pub grown_long : {X : Type 0} (n : ℕ) (xs more : List X) → n ≤ length xs → n ≤ length (take n xs ++ more)
grown_long n xs more h = let e = take_length n xs h in let f = length-append (take n xs) more in omega arith

-- facts cut
pub stand_cut : (sorts : Sorts) (trees : List Tree) (n : ℕ) (path : List Fact) (facts : List BranchFact) → AllStand sorts trees path facts →
    AllStand sorts trees (take n path) (take n facts)
stand_cut sorts trees zero path facts all = tt
stand_cut sorts trees (suc n) [] [] all = tt
stand_cut sorts trees (suc n) [] (k ∷ ks) all = absurd all
stand_cut sorts trees (suc n) (f ∷ fs) [] all = absurd all
stand_cut sorts trees (suc n) (f ∷ fs) (k ∷ ks) all = (all.0, stand_cut sorts trees n fs ks all.1)

pub sorted_cut : (sorts : Sorts) (n : ℕ) (facts : List BranchFact) → AreFactsSorted sorts facts → AreFactsSorted sorts (take n facts)
sorted_cut sorts zero facts all = tt
sorted_cut sorts (suc n) [] all = tt
sorted_cut sorts (suc n) (k ∷ ks) all = (all.0, sorted_cut sorts n ks all.1)

-- as many facts as the path has
pub stand_long : (sorts : Sorts) (trees : List Tree) (path : List Fact) (facts : List BranchFact) → AllStand sorts trees path facts →
    length path ≡ length facts
stand_long sorts trees [] [] all = refl
stand_long sorts trees [] (k ∷ ks) all = absurd all
stand_long sorts trees (f ∷ fs) [] all = absurd all
stand_long sorts trees (f ∷ fs) (k ∷ ks) all = let e = stand_long sorts trees fs ks all.1 in omega arith

-- the branch that is due has as many facts as the path
pub due_long : (sorts : Sorts) (trees : List Tree) (path : List Fact) (d : Option Due) (ws : List Waiting) (ps : List Pending) →
    PendingStands sorts trees path d ws ps → HasFacts ps (length path)
due_long sorts trees path d ws ps stands = of d ps stands.all
  where
    of : (d : Option Due) (ps : List Pending) → AllPending sorts trees stands.facts d (reverse ws) ps → HasFacts ps (length path)
    of None [] all = tt
    of None (p ∷ ps) all = absurd all
    of (Some d) [] all = absurd all
    of (Some d) (plain.Due st above ∷ ps) all = tt
    of (Some (due.State state above)) (plain.Branch stores own over ∷ ps) all = absurd all.0
    of (Some (due.Branch stores splits)) (plain.Branch held own over ∷ ps) all =
        stand_long sorts trees path stands.facts stands.stand ∙ ap length (sym all.0.0)

-- formulas as facts
pub forms_sorted : (sorts : Sorts) (trees : List Tree) (fs : List Formula) → AreFormsReady sorts trees fs →
    AreFactsSorted sorts (as_facts (forms_in sorts trees fs))
forms_sorted sorts trees [] all = tt
forms_sorted sorts trees (f ∷ fs) all = (all.0.1, forms_sorted sorts trees fs all.1)

pub facts_append : (fs gs : List Assertion) → as_facts (fs ++ gs) ≡ as_facts fs ++ as_facts gs
facts_append [] gs = refl
facts_append (f ∷ fs) gs = ap (λ (l : List BranchFact). Formal f ∷ l) (facts_append fs gs)

-- something that waits stands for the same over a path with the same front
waiting_moves : (sorts : Sorts) (trees : List Tree) (facts after : List BranchFact) (w : Waiting) (p : Pending) →
    take (shared_by w) after ≡ take (shared_by w) facts → WaitingStands sorts trees facts w p → WaitingStands sorts trees after w p
waiting_moves sorts trees facts after (waits.State shared kept more state above) (plain.Due st over) same h =
    let own = as_facts (forms_in sorts trees kept.value.list.items ++ forms_in sorts trees more.list.items) in
    (h.0, h.1, subst (λ (l : List BranchFact). as_facts st.facts ≡ l ++ own) (sym same) h.2, h.3, h.4)
waiting_moves sorts trees facts after (waits.State shared kept more state above) (plain.Branch held own over) same h = absurd h
waiting_moves sorts trees facts after (waits.Branch shared f stores splits) (plain.Due st over) same h = absurd h
waiting_moves sorts trees facts after (waits.Branch shared f stores splits) (plain.Branch held own over) same h =
    let k = h.0.0 in
    ((k, h.0.1, h.0.2, subst (λ (l : List BranchFact). own ≡ l ++ k ∷ []) (sym same) h.0.3), h.1, h.2)

-- so does all that waits
pub wait_moves : (sorts : Sorts) (trees : List Tree) (facts after : List BranchFact) (most : ℕ) (ws : List Waiting) (ps : List Pending) →
    take most after ≡ take most facts → AllWait sorts trees facts most ws ps → AllWait sorts trees after most ws ps
wait_moves sorts trees facts after most [] [] same h = tt
wait_moves sorts trees facts after most [] (p ∷ ps) same h = absurd h
wait_moves sorts trees facts after most (w ∷ ws) [] same h = absurd h
wait_moves sorts trees facts after most (w ∷ ws) (p ∷ ps) same h =
    let m = shared_by w in
    let here : take m after ≡ take m facts = sym (take_twice m most after h.0) ∙ ap (take m) same ∙ take_twice m most facts h.0 in
    (h.0, waiting_moves sorts trees facts after w p here h.1, wait_moves sorts trees facts after m ws ps here h.2)

-- with a greater bound, too
pub wait_looser : (sorts : Sorts) (trees : List Tree) (facts : List BranchFact) (most more : ℕ) (ws : List Waiting) (ps : List Pending) →
    most ≤ more → AllWait sorts trees facts most ws ps → AllWait sorts trees facts more ws ps
wait_looser sorts trees facts most more [] [] le h = tt
wait_looser sorts trees facts most more [] (p ∷ ps) le h = absurd h
wait_looser sorts trees facts most more (w ∷ ws) [] le h = absurd h
wait_looser sorts trees facts most more (w ∷ ws) (p ∷ ps) le h = (omega (arith, h.0), h.1, h.2)

-- the first thing that waits, by its place at the end
pub last_first : (ws : List Waiting) (w : Waiting) → reverse (ws ++ w ∷ []) ≡ w ∷ reverse ws
last_first ws w = reverse-append ws (w ∷ [])

-- what waits is ready
pub ready_parts : (sorts : Sorts) (trees : List Tree) (ws more : List Waiting) → AreWaitingReady sorts trees (ws ++ more) →
    AreWaitingReady sorts trees ws × AreWaitingReady sorts trees more
ready_parts sorts trees [] more all = (tt, all)
ready_parts sorts trees (w ∷ ws) more all = let both = ready_parts sorts trees ws more all.1 in ((all.0, both.0), both.1)

pub ready_append : (sorts : Sorts) (trees : List Tree) (ws more : List Waiting) → AreWaitingReady sorts trees ws → AreWaitingReady sorts trees more →
    AreWaitingReady sorts trees (ws ++ more)
ready_append sorts trees [] more all and = and
ready_append sorts trees (w ∷ ws) more all and = (all.0, ready_append sorts trees ws more all.1 and)

-- a state is due
pub state_ready : (sorts : Sorts) (trees : List Tree) (facts : List BranchFact) (path : List Fact) (p : Pending)
    (shared : ℕ) (kept more : List Formula) (d : Due) →
    AreFactsSorted sorts facts → shared ≤ length facts → AreFormsReady sorts trees kept → AreFormsReady sorts trees more →
    AllStand sorts trees path ((take shared facts ++ as_facts (forms_in sorts trees kept)) ++ as_facts (forms_in sorts trees more)) →
    DueStands sorts trees (take shared facts ++ as_facts (forms_in sorts trees kept ++ forms_in sorts trees more)) d p →
    IsMadeReady sorts trees facts path shared d p
state_ready sorts trees facts path p shared kept more d sorted short one two all stands =
    let ks = as_facts (forms_in sorts trees kept) in
    let ms = as_facts (forms_in sorts trees more) in
    let both = as_facts (forms_in sorts trees kept ++ forms_in sorts trees more) in
    let joined : both ≡ ks ++ ms = facts_append (forms_in sorts trees kept) (forms_in sorts trees more) in
    let is : (take shared facts ++ ks) ++ ms ≡ take shared facts ++ both =
    append_assoc (take shared facts) ks ms ∙ ap (λ (l : List BranchFact). take shared facts ++ l) (sym joined) in
    record {
      after = take shared facts ++ both;
      stand = subst (AllStand sorts trees path) is all;
      sorted =
          sorted_append sorts (take shared facts) both (sorted_cut sorts shared facts sorted)
          (subst (AreFactsSorted sorts) (sym joined)
          (sorted_append sorts ks ms (forms_sorted sorts trees kept one) (forms_sorted sorts trees more two)));
      same = take_grown shared facts both short;
      long = grown_long shared facts both short;
      first = stands;
    }

-- a branch is due
pub branch_ready : (sorts : Sorts) (trees : List Tree) (facts : List BranchFact) (path : List Fact) (p : Pending) (shared : ℕ)
    (k : BranchFact) (d : Due) →
    AreFactsSorted sorts facts → shared ≤ length facts → IsFactSorted sorts k →
    AllStand sorts trees path (take shared facts ++ k ∷ []) → DueStands sorts trees (take shared facts ++ k ∷ []) d p →
    IsMadeReady sorts trees facts path shared d p
branch_ready sorts trees facts path p shared k d sorted short fine all stands = record {
  after = take shared facts ++ k ∷ [];
  stand = all;
  sorted = sorted_append sorts (take shared facts) (k ∷ []) (sorted_cut sorts shared facts sorted) (fine, tt);
  same = take_grown shared facts (k ∷ []) short;
  long = grown_long shared facts (k ∷ []) short;
  first = stands;
}

-- what waited first is due
pub first_due : (sorts : Sorts) (trees : List Tree) (facts : List BranchFact) (path : List Fact) (ws : List Waiting) (w : Waiting)
    (p : Pending) (ps : List Pending) (d : Due) →
    IsMadeReady sorts trees facts path (shared_by w) d p → AllWait sorts trees facts (shared_by w) (reverse ws) ps →
    PendingStands sorts trees path (Some d) ws (p ∷ ps)
first_due sorts trees facts path ws w p ps d ready h = record {
  facts = ready.after;
  stand = ready.stand;
  sorted = ready.sorted;
  all = (
    ready.first,
    wait_looser sorts trees ready.after (shared_by w) (length ready.after) (reverse ws) ps ready.long
        (wait_moves sorts trees facts ready.after (shared_by w) (reverse ws) ps ready.same h),
  );
}

-- one formula more
next_form : (sorts : Sorts) (trees : List Tree) (fs : List Formula) (i : ℕ) (f : Formula) → i < length fs → f ≡ get_or fs i f →
    AreFormsReady sorts trees fs →
    IsFormReady sorts trees f
    × (as_facts (forms_in sorts trees (take (suc i) fs))
    ≡ as_facts (forms_in sorts trees (take i fs)) ++ Formal (assertion_in sorts trees (numbered f)) ∷ [])
next_form sorts trees [] i f h e all = absurd (omega arith)
next_form sorts trees (g ∷ gs) zero f h e all =
    (subst (IsFormReady sorts trees) (sym e) all.0, ap (λ (x : Formula). Formal (assertion_in sorts trees (numbered x)) ∷ []) (sym e))
next_form sorts trees (g ∷ gs) (suc i) f h e all =
    let less : i < length gs = omega arith in
    let rest = next_form sorts trees gs i f less e all.1 in
    (rest.0, ap (λ (l : List BranchFact). Formal (assertion_in sorts trees (numbered g)) ∷ l) rest.1)

pub form_added : (sorts : Sorts) (trees : List Tree) (path : List Fact) (facts : List BranchFact) (fs : List Formula) (i : ℕ) (f copy : Formula) →
    i < length fs → f ≡ get_or fs i f → AreFormsReady sorts trees fs → numbered copy ≡ numbered f →
    AllStand sorts trees path (facts ++ as_facts (forms_in sorts trees (take i fs))) →
    AllStand sorts trees (path ++ fact.Form copy ∷ []) (facts ++ as_facts (forms_in sorts trees (take (i + 1) fs)))
form_added sorts trees path facts fs i f copy h e ready same all =
    let next = next_form sorts trees fs i f h e ready in
    let front = as_facts (forms_in sorts trees (take i fs)) in
    let k = Formal (assertion_in sorts trees (numbered f)) in
    let more : i + 1 ≡ suc i = omega arith in
    let is : facts ++ as_facts (forms_in sorts trees (take (i + 1) fs)) ≡ (facts ++ front) ++ k ∷ [] =
    ap (λ (n : ℕ). facts ++ as_facts (forms_in sorts trees (take n fs))) more ∙ ap (λ (l : List BranchFact). facts ++ l) next.1
    ∙ sym (append_assoc facts front (k ∷ [])) in
    let stands : FactStands sorts trees (fact.Form copy) k = (
      subst (λ (n : NumberedFormula). IsFormulaWithin (length trees) n) (sym same) next.0.0,
      ap (assertion_in sorts trees) same,
    ) in
    subst (AllStand sorts trees (path ++ fact.Form copy ∷ [])) (sym is)
    (stand_append sorts trees path (fact.Form copy ∷ []) (facts ++ front) (k ∷ []) all (stands, tt))

-- a state that waited
pub state_turn : (sorts : Sorts) (trees : List Tree) (facts : List BranchFact) (path : List Fact) (p : Pending)
    (shared : ℕ) (kept : Rc Formulas Global) (more : Formulas) (state : SymState) (above : ℕ) →
    AreFactsSorted sorts facts → shared ≤ length facts → WaitingStands sorts trees facts (waits.State shared kept more state above) p →
    (AreFormsReady sorts trees kept.value.list.items → AreFormsReady sorts trees more.list.items →
    AllStand sorts trees path
    ((take shared facts ++ as_facts (forms_in sorts trees kept.value.list.items)) ++ as_facts (forms_in sorts trees more.list.items))) →
    IsMadeReady sorts trees facts path shared (due.State state above) p
state_turn sorts trees facts path (plain.Branch held own over) shared kept more state above sorted short h all = absurd h
state_turn sorts trees facts path (plain.Due st over) shared kept more state above sorted short h all =
    state_ready sorts trees facts path (plain.Due st over) shared kept.value.list.items more.list.items
    (due.State state above) sorted short h.0 h.1 (all h.0 h.1) (h.2, h.3, h.4)

-- a branch that waited
pub branch_turn : (sorts : Sorts) (trees : List Tree) (facts : List BranchFact) (path path' : List Fact) (p : Pending)
    (shared : ℕ) (f : Fact) (stores : Rc (PerCopy SymStore) Global) (splits : ℕ) →
    AreFactsSorted sorts facts → shared ≤ length facts → WaitingStands sorts trees facts (waits.Branch shared f stores splits) p →
    AllStand sorts trees path facts → path' ≡ take shared path ++ f ∷ [] →
    IsMadeReady sorts trees facts path' shared (due.Branch stores splits) p
branch_turn sorts trees facts path path' (plain.Due st over) shared f stores splits sorted short h all is = absurd h
branch_turn sorts trees facts path path' (plain.Branch held own over) shared f stores splits sorted short h all is =
    let k = h.0.0 in
    branch_ready sorts trees facts path' (plain.Branch held own over) shared k (due.Branch stores splits) sorted short h.0.2
    (subst (λ (l : List Fact). AllStand sorts trees l (take shared facts ++ k ∷ [])) (sym is)
    (stand_append sorts trees (take shared path) (f ∷ []) (take shared facts) (k ∷ []) (stand_cut sorts trees shared path facts all) (h.0.1, tt)))
    (h.0.3, h.1, h.2)

-- the first of what waits is taken
pub turn_taken : (sorts : Sorts) (trees : List Tree) (facts : List BranchFact) (path : List Fact) (old ws : List Waiting) (w : Waiting)
    (rest : List Pending) (d : Due) →
    old ≡ ws ++ w ∷ [] → AllWait sorts trees facts (length facts) (reverse old) rest →
    ((p : Pending) → shared_by w ≤ length facts → WaitingStands sorts trees facts w p → IsMadeReady sorts trees facts path (shared_by w) d p) →
    PendingStands sorts trees path (Some d) ws rest
turn_taken sorts trees facts path old ws w rest d is h ready =
    by rest (subst (λ (l : List Waiting). AllWait sorts trees facts (length facts) l rest) (ap reverse is ∙ last_first ws w) h)
  where
    by : (rest : List Pending) → AllWait sorts trees facts (length facts) (w ∷ reverse ws) rest → PendingStands sorts trees path (Some d) ws rest
    by [] h = absurd h
    by (p ∷ ps) h = first_due sorts trees facts path ws w p ps d (ready p h.0 h.1) h.2

-- in the other order, too
pub ready_reversed : (sorts : Sorts) (trees : List Tree) (ws : List Waiting) → AreWaitingReady sorts trees ws → AreWaitingReady sorts trees (reverse ws)
ready_reversed sorts trees [] all = tt
ready_reversed sorts trees (w ∷ ws) all =
    subst (AreWaitingReady sorts trees) (sym (reverse-append (w ∷ []) ws))
    (ready_append sorts trees (reverse ws) (w ∷ []) (ready_reversed sorts trees ws all.1) (all.0, tt))
