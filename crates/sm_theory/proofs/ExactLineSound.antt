-- What the exact line adds holds wherever the facts do: forms by the places of their atoms say what the
-- forms say, and are as the program keeps them. What it adds is sorted, and names no new values.
use Rattle.sm_theory.proofs.Imports.{◌≡◌, ℕ, zero, suc, ◌+◌, nat_le, ℤ, pos, ◌+ℤ◌, ◌*ℤ◌, Bool, true, false, ◌&&◌, if◌then◌else◌, slice_get, IsTrue, Some, None, List, [], ◌∷◌, refl, subst, sym, ap, ◌∙◌, arith, int_eq, list_all, filter_map, and_parts, Decides-int_eq, fits_form, Linear, sum_of_parts, HoldsAt, Satisfies, coefficient, parts_without, AreParts, IsKept, with_part, sum_without, sum_with_part, parts_from, Tree, Structure, No, same_tree, BranchFact, Formal, Sum, number_meant, AreFacts, Exact, followed, formula_in, form_in, formula_if, all_terms, parts_by_places, is_in_range, where_in_range, form_by_places, forms_by_places, forms_of_branch, has_no_solution, exact_adds, with_exact, IsFactSorted, IsFactBelow, TheoryAdds, AddsWhatHolds, AddsWhatIsSorted, AddsWhatIsBelow, AddsAnywhere}
use Rattle.sm_omega.specs.Counting.{Done, Passed, Outside, Shallow}
use Rattle.sm_omega.specs.Rules.{Answer}
use Rattle.sm_omega.specs.Exact.{exact}
use Rattle.sm_omega.specs.ExactLaws.{AllHold, AllKept, IsRightFor}
use Rattle.sm_omega.proofs.ExactRight.{exact_right}
use Rattle.sm_theory.proofs.FactsLemmas.{followed_from}
use Rattle.sm_theory.proofs.EqualityLemmas.{formula_if_from}
use Rattle.sm_theory.proofs.LinearSameTree.{tree_sound}

-- whether a part's coefficient is in the range
abbrev pub part_fits : ℕ × ℤ → Bool
part_fits p = fits_form p.1

-- form_by_places parts ascend
placed_parts_kept : (ts : List Tree) (n : ℕ) (ps : List (Tree × ℤ)) (qs : List (ℕ × ℤ)) → parts_by_places ts n ps ≡ Some qs →
    list_all part_fits qs ≡ true → AreParts n qs
placed_parts_kept [] n [] qs e fit = let same : [] ≡ qs = cc in subst (AreParts n) same tt
placed_parts_kept [] n (p ∷ ps) qs e fit = absurd cc
placed_parts_kept (t ∷ ts) n ps qs e fit =
    let c = coefficient same_tree t ps in
    let p = followed_from (parts_by_places ts (suc n) (parts_without same_tree t ps)) (λ (rest : List (ℕ × ℤ)). Some (with_part n c rest)) qs e in
    let same : with_part n c p.0 ≡ qs = some_is p.2 in
    subst (AreParts n) same
    (by c p.0 (int_eq c (pos 0)) refl (λ h. placed_parts_kept ts (suc n) (parts_without same_tree t ps) p.0 p.1 h)
    (subst (λ (rs : List (ℕ × ℤ)). list_all part_fits rs ≡ true) (sym same) fit))
  where
    some_is : {T : Type 0} {x y : T} → Some x ≡ Some y → x ≡ y
    some_is e = cc

    by : (c : ℤ) (rest : List (ℕ × ℤ)) (b : Bool) → int_eq c (pos 0) ≡ b → (list_all part_fits rest ≡ true → AreParts (suc n) rest) →
        list_all part_fits (if b then rest else (n, c) ∷ rest) ≡ true → AreParts n (if b then rest else (n, c) ∷ rest)
    by c rest true none later h = parts_from (suc n) n rest (omega arith) (later h)
    by c rest false other later h =
        let p = and_parts (fits_form c) (list_all part_fits rest) h in
        (omega arith, p.0, (λ (none : c ≡ pos 0). let there = (Decides-int_eq c (pos 0)).1 none in cc), later p.1)

-- values of places and of terms are the same
abbrev HaveValues : (ℕ → ℤ) → (Tree → ℤ) → ℕ → List Tree → Type 0
HaveValues v w n ts = (i : ℕ) (t : Tree) → slice_get ts i ≡ Some t → v (n + i) ≡ w t

-- the sum of form_by_places parts
placed_parts_sum : (v : ℕ → ℤ) (w : Tree → ℤ) (ts : List Tree) (n : ℕ) (ps : List (Tree × ℤ)) (qs : List (ℕ × ℤ)) → HaveValues v w n ts →
    parts_by_places ts n ps ≡ Some qs → sum_of_parts w ps ≡ sum_of_parts v qs
placed_parts_sum v w [] n [] qs at e = let same : [] ≡ qs = cc in ap (sum_of_parts v) same
placed_parts_sum v w [] n (p ∷ ps) qs at e = absurd cc
placed_parts_sum v w (t ∷ ts) n ps qs at e =
    let c = coefficient same_tree t ps in
    let others = parts_without same_tree t ps in
    let p = followed_from (parts_by_places ts (suc n) others) (λ (rest : List (ℕ × ℤ)). Some (with_part n c rest)) qs e in
    let same : with_part n c p.0 ≡ qs = some_is p.2 in
    let here : v n ≡ w t = ap v (let none : n ≡ n + 0 = omega arith in none) ∙ at 0 t refl in
    let later : sum_of_parts w others ≡ sum_of_parts v p.0 = placed_parts_sum v w ts (suc n) others p.0
    (λ (i : ℕ) (u : Tree) (g : slice_get ts i ≡ Some u). ap v (let one : suc n + i ≡ n + suc i = omega arith in one) ∙ at (suc i) u g) p.1 in
    sum_without w same_tree tree_sound t ps
    ∙ ap (λ (z : ℤ). (c *ℤ w t) +ℤ z) later
    ∙ ap (λ (z : ℤ). (c *ℤ z) +ℤ sum_of_parts v p.0) (sym here)
    ∙ sym (sum_with_part v n c p.0)
    ∙ ap (sum_of_parts v) same
  where
    some_is : {T : Type 0} {x y : T} → Some x ≡ Some y → x ≡ y
    some_is e = cc

-- what is in the range is the form
in_range_from : (f h : Linear ℕ) → where_in_range f ≡ Some h → IsTrue (is_in_range f) × (f ≡ h)
in_range_from f h e = by (is_in_range f) e
  where
    by : (b : Bool) → (if b then Some f else None) ≡ Some h → (b ≡ true) × (f ≡ h)
    by true e = (refl, cc)
    by false e = absurd cc

-- a form with other parts
abbrev pub with_parts : Linear Tree → List (ℕ × ℤ) → Linear ℕ
with_parts g ps = record { parts = ps; constant = g.constant; kind = g.kind }

-- a form_by_places form is as the program keeps it
pub placed_kept : (terms : List Tree) (g : Linear Tree) (f : Linear ℕ) → form_by_places terms g ≡ Some f → IsKept f
placed_kept terms g f e =
    let p = followed_from (parts_by_places terms 0 g.parts) (λ (ps : List (ℕ × ℤ)). where_in_range (with_parts g ps)) f e in
    let q = in_range_from (with_parts g p.0) f p.2 in
    let r = and_parts (list_all part_fits p.0) (fits_form g.constant) q.0 in
    subst IsKept q.1 (record { parts = placed_parts_kept terms 0 g.parts p.0 p.1 r.0; constant = r.1 })

-- it says what the form says
pub placed_holds : (v : ℕ → ℤ) (w : Tree → ℤ) (terms : List Tree) (g : Linear Tree) (f : Linear ℕ) → HaveValues v w 0 terms →
    form_by_places terms g ≡ Some f → HoldsAt w g → HoldsAt v f
placed_holds v w terms g f at e holds =
    let p = followed_from (parts_by_places terms 0 g.parts) (λ (ps : List (ℕ × ℤ)). where_in_range (with_parts g ps)) f e in
    let q = in_range_from (with_parts g p.0) f p.2 in
    subst (HoldsAt v) q.1
    (subst (λ (z : ℤ). Satisfies g.kind (z +ℤ g.constant)) (placed_parts_sum v w terms 0 g.parts p.0 at p.1) holds)

-- each form holds
abbrev FormsHold : (Tree → ℤ) → List (Linear Tree) → Type 0
FormsHold w [] = Unit {0}
FormsHold w (g ∷ gs) = HoldsAt w g × FormsHold w gs

-- forms that are form_by_places, the first and the others
all_placed_from : (terms : List Tree) (g : Linear Tree) (gs : List (Linear Tree)) (fs : List (Linear ℕ)) → forms_by_places terms (g ∷ gs) ≡ Some fs →
    (h : Linear ℕ) × (hs : List (Linear ℕ)) × (form_by_places terms g ≡ Some h) × (forms_by_places terms gs ≡ Some hs) × (h ∷ hs ≡ fs)
all_placed_from terms g gs fs e =
    let p = followed_from (form_by_places terms g) (λ (f : Linear ℕ). followed (forms_by_places terms gs) (λ (rest : List (Linear ℕ)). Some (f ∷ rest))) fs e in
    let q = followed_from (forms_by_places terms gs) (λ (rest : List (Linear ℕ)). Some (p.0 ∷ rest)) fs p.2 in
    let last : Some (p.0 ∷ q.0) ≡ Some fs = q.2 in
    (p.0, q.0, p.1, q.1, cc)

-- form_by_places forms are as the program keeps them
pub all_placed_kept : (terms : List Tree) (gs : List (Linear Tree)) (fs : List (Linear ℕ)) → forms_by_places terms gs ≡ Some fs → AllKept fs
all_placed_kept terms [] fs e = let same : [] ≡ fs = cc in subst AllKept same tt
all_placed_kept terms (g ∷ gs) fs e =
    let p = all_placed_from terms g gs fs e in
    subst AllKept p.4 (placed_kept terms g p.0 p.2, all_placed_kept terms gs p.1 p.3)

-- they say what the forms say
pub all_placed_hold : (v : ℕ → ℤ) (w : Tree → ℤ) (terms : List Tree) (gs : List (Linear Tree)) (fs : List (Linear ℕ)) → HaveValues v w 0 terms →
    forms_by_places terms gs ≡ Some fs → FormsHold w gs → AllHold v fs
all_placed_hold v w terms [] fs at e hold = let same : [] ≡ fs = cc in subst (AllHold v) same tt
all_placed_hold v w terms (g ∷ gs) fs at e hold =
    let p = all_placed_from terms g gs fs e in
    subst (AllHold v) p.4 (placed_holds v w terms g p.0 at p.2 hold.0, all_placed_hold v w terms gs p.1 at p.3 hold.1)

-- the value of the term at a place, 0 where there is none
abbrev value_at_place : (Tree → ℤ) → List Tree → ℕ → ℤ
value_at_place w [] n = pos 0
value_at_place w (t ∷ ts) zero = w t
value_at_place w (t ∷ ts) (suc n) = value_at_place w ts n

-- it is the value of the term
value_there : (w : Tree → ℤ) (ts : List Tree) (i : ℕ) (t : Tree) → slice_get ts i ≡ Some t → value_at_place w ts i ≡ w t
value_there w [] i t e = absurd cc
value_there w (u ∷ ts) zero t e = let same : u ≡ t = cc in ap w same
value_there w (u ∷ ts) (suc i) t e = value_there w ts i t e

-- from the first place on
values_there : (w : Tree → ℤ) (ts : List Tree) → HaveValues (value_at_place w ts) w 0 ts
values_there w ts i t e = ap (value_at_place w ts) (let none : 0 + i ≡ i = omega arith in none) ∙ value_there w ts i t e

-- the forms among facts that hold
forms_hold : (m : Structure) (facts : List BranchFact) → AreFacts m facts → FormsHold (number_meant m) (filter_map form_in facts)
forms_hold m [] hold = tt
forms_hold m (Formal f ∷ ks) hold = forms_hold m ks hold.1
forms_hold m (Sum f ∷ ks) hold = (hold.0, forms_hold m ks hold.1)

-- where a right answer says that there is no solution, there is none
refuted_fails : (fs : List (Linear ℕ)) (answer : Answer) (v : ℕ → ℤ) → has_no_solution answer ≡ true → IsRightFor fs answer → AllHold v fs → ⊥
refuted_fails fs (Done c None) v e right hold = right v hold
refuted_fails fs (Done c (Some w)) v e right hold = absurd cc
refuted_fails fs Passed v e right hold = absurd cc
refuted_fails fs (Outside op y z) v e right hold = absurd cc
refuted_fails fs Shallow v e right hold = absurd cc

-- what the exact line comes from
exact_from : (facts : List BranchFact) (n : ℕ) (k : BranchFact) → exact_adds facts n ≡ Some k →
    (fs : List (Linear ℕ)) × (forms_of_branch facts ≡ Some fs) × IsTrue (has_no_solution (exact fs n)) × (Formal No ≡ k)
exact_from facts n k e =
    let p = followed_from (forms_of_branch facts) (λ (fs : List (Linear ℕ)). formula_if (nat_le n 1000000 && has_no_solution (exact fs n)) No) k e in
    let q = formula_if_from (nat_le n 1000000 && has_no_solution (exact p.0 n)) No k p.2 in
    let r = and_parts (nat_le n 1000000) (has_no_solution (exact p.0 n)) q.0 in
    (p.0, p.1, r.1, q.1)

-- where it adds something, not all facts hold
pub exact_fails : (m : Structure) (facts : List BranchFact) (n : ℕ) (k : BranchFact) → exact_adds facts n ≡ Some k → AreFacts m facts → ⊥
exact_fails m facts n k e hold =
    let terms = all_terms (filter_map formula_in facts) in
    let forms = filter_map form_in facts in
    let v = value_at_place (number_meant m) terms in
    let p = exact_from facts n k e in
    refuted_fails p.0 (exact p.0 n) v p.2 (exact_right p.0 n (all_placed_kept terms forms p.0 p.1))
    (all_placed_hold v (number_meant m) terms forms p.0 (values_there (number_meant m) terms) p.1 (forms_hold m facts hold))

-- what a theory with the exact line adds holds wherever the facts do
pub with_exact_holds : (a : TheoryAdds) → AddsWhatHolds a → AddsWhatHolds (with_exact a)
with_exact_holds a law sorts m facts (Exact n) k all named h hold = absurd (exact_fails m facts n k h hold)
with_exact_holds a law sorts m facts line k all named h hold = law sorts m facts line k all named h hold

-- it is sorted
pub with_exact_sorted : (a : TheoryAdds) → AddsWhatIsSorted a → AddsWhatIsSorted (with_exact a)
with_exact_sorted a law sorts facts (Exact n) k all named h = subst (IsFactSorted sorts) (exact_from facts n k h).3 tt
with_exact_sorted a law sorts facts line k all named h = law sorts facts line k all named h

-- it names no new value
pub with_exact_below : (a : TheoryAdds) → AddsWhatIsBelow a → AddsWhatIsBelow (with_exact a)
with_exact_below a law sorts node facts (Exact n) k all named h = subst (IsFactBelow node) (exact_from facts n k h).3 tt
with_exact_below a law sorts node facts line k all named h = law sorts node facts line k all named h

-- another branch on which the line reads the same gives it too
pub with_exact_anywhere : (a : TheoryAdds) → AddsAnywhere a → AddsAnywhere (with_exact a)
with_exact_anywhere a law sorts move facts others (Exact n) k alike h =
    subst (λ (there : List BranchFact). exact_adds there n ≡ Some k) (alike.1 refl) h
with_exact_anywhere a law sorts move facts others line k alike h = law sorts move facts others line k alike h
