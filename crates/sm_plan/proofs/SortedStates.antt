-- What a node opens at a sorted state is sorted.
use Rattle.sm_plan.proofs.Imports.{◌≡◌, ℕ, Bool, true, false, ◌==◌, if◌then◌else◌, Option, Some, None, List, [], ◌∷◌, ◌++◌, map, refl, ap, sym, ◌∙◌, subst, flat_map, or_right, or_left, Condition, Code, append, Copy, O, A, B, M, Task, is_in, Sorts, IsWellSortedCondition, IsWellSorted, Sort, Num, Arr, assigns, Tree, Start, Havoc, Fun, Assertion, negate, conj, SymbolicStore, with_term, term_of, form_of, all_at_stores, sort_named, IsDeclaredIn, AreArgumentsSorted, HasSort, IsFormSorted, AreFormsSorted, IsStoreSorted, inputs, inputs_declared, assigned_declared, Copies, copies, has, no_copies, rest_after, loop_guard, loop_body, last_guard, State, place, keeps_goals, start_store, start_facts, start_state, IsStateSorted, AreStatesSorted, IsAssumptionSorted, AreOutputsDeclared, IsTaskSorted, named_declared, named, negate_sorted, forms_append}
use Rattle.std.proofs.Common.{is_some}
use Rattle.std.proofs.lemmas.Bool.{eq-eqb}
use Rattle.sm_syntax.specs.claim.Syntax as syntax
use Rattle.sm_term.specs.Terms.{Write}
use Rattle.sm_plan.specs.Successors as next
use Rattle.sm_plan.proofs.CopiesLemmas.{one_copy}
use Rattle.sm_plan.proofs.SortedCode.{front_well, rest_well, guard_well, body_well, last_guard_well}
use Rattle.sm_plan.proofs.SortedTerms.{sort_is, of_declared, term_sorted, form_sorted, conj_sorted, all_at_stores_sorted, choice_sorted, with_term_sorted}

-- names with their present terms, each declared
present_sorted : (sorts : Sorts) (s : SymbolicStore) → IsStoreSorted sorts s → (names : List ℕ) →
    ((x : ℕ) → is_in names x ≡ true → IsDeclaredIn sorts x) →
    AreArgumentsSorted sorts (next.present s names)
present_sorted sorts s good [] all = tt
present_sorted sorts s good (x ∷ rest) all =
    let here : IsDeclaredIn sorts x = all x (or_left (x == x) (is_in rest x) (eq-eqb x x refl)) in
    let of_x = of_declared sorts s good x here in (
      named sorts x here ∙ ap (λ (sort : Sort). Some sort) (sym of_x.1),
      of_x.0,
      present_sorted sorts s good rest (λ (y : ℕ) (h : is_in rest y ≡ true). all y (or_right (y == x) (is_in rest y) h)),
    )

-- a store with new terms for names that code assigns
assigned_sorted : (sorts : Sorts) (c : Code) (s : SymbolicStore) (new : ℕ → Tree) → IsWellSorted sorts c → IsStoreSorted sorts s →
    ((x : ℕ) → IsDeclaredIn sorts x → HasSort sorts (sort_named sorts x) (new x)) →
    IsStoreSorted sorts (λ (x : ℕ). if assigns c x then new x else s x)
assigned_sorted sorts c s new well good of_new = record {
  declared = λ (x : ℕ) (sort : Sort) (e : sorts x ≡ Some sort).
      choice_sorted sorts sort (assigns c x) (new x) (s x)
      (λ (h : assigns c x ≡ true).
      subst (λ (r : Sort). HasSort sorts r (new x)) (sort_is sorts x sort e) (of_new x (named_declared sorts x sort e)))
      (λ (h : assigns c x ≡ false). good.declared x sort e);
  other = λ (x : ℕ) (e : sorts x ≡ None). left x (assigns c x) refl e;
}
  where
    left : (x : ℕ) (b : Bool) → assigns c x ≡ b → sorts x ≡ None → (if b then new x else s x) ≡ Start x
    left x true h e = absurd (let some : is_some (sorts x) ≡ true = assigned_declared sorts c x well h in
        let none : is_some (sorts x) ≡ false = ap (λ (o : Option Sort). is_some o) e in cc)
    left x false h e = good.other x e

-- summaries
pub summarized_sorted : (sorts : Sorts) (c : Code) (s : SymbolicStore) → IsWellSorted sorts c → IsStoreSorted sorts s →
    IsStoreSorted sorts (next.summarized c s)
summarized_sorted sorts c s well good =
    assigned_sorted sorts c s (λ (x : ℕ). Fun c x (next.present s (inputs c x))) well good
    (λ (x : ℕ) (here : IsDeclaredIn sorts x). (
      (
        well,
        here,
        present_sorted sorts s good (inputs c x)
            (λ (y : ℕ) (h : is_in (inputs c x) y ≡ true). inputs_declared sorts c x y well here h),
      ),
      refl,
    ))

-- new values of a node
pub renewed_sorted : (sorts : Sorts) (k : ℕ) (done : Copy → Code) (s : Copy → SymbolicStore) → ((c : Copy) → IsWellSorted sorts (done c)) →
    ((c : Copy) → IsStoreSorted sorts (s c)) →
    (c : Copy) → IsStoreSorted sorts (next.renewed k done s c)
renewed_sorted sorts k done s well good c =
    assigned_sorted sorts (done c) (s c) (λ (x : ℕ). Havoc k c x) (well c) (good c) (λ (x : ℕ) (here : IsDeclaredIn sorts x). (here, refl))

-- that a guard is false
false_guard_sorted : (sorts : Sorts) (g : Option Condition) (s : SymbolicStore) →
    ((b : Condition) → g ≡ Some b → IsWellSortedCondition sorts b) → IsStoreSorted sorts s →
    AreFormsSorted sorts (next.false_guard g s)
false_guard_sorted sorts None s well good = tt
false_guard_sorted sorts (Some b) s well good = (negate_sorted sorts (form_of b s) (form_sorted sorts b s (well b refl) good), tt)

-- what a simple statement leaves
pub stepped_sorted : (sorts : Sorts) (c : Code) (s : SymbolicStore) (p : Code × SymbolicStore) → next.stepped c s ≡ Some p →
    IsWellSorted sorts c → IsStoreSorted sorts s →
    IsWellSorted sorts p.0 × IsStoreSorted sorts p.1
stepped_sorted sorts syntax.End s p e w good = absurd cc
stepped_sorted sorts (syntax.Skip r) s p e w good =
    let left : p.0 ≡ r = cc in
    let same : p.1 ≡ s = cc in
    (rw left w, rw same good)
stepped_sorted sorts (syntax.Assign x v r) s p e w good =
    let left : p.0 ≡ r = cc in
    let same : p.1 ≡ with_term s x (term_of v s) = cc in
    (rw left w.2, rw same (with_term_sorted sorts s x Num (term_of v s) good w.0 (term_sorted sorts v s w.1 good)))
stepped_sorted sorts (syntax.Write a i v r) s p e w good =
    let new = Write (s a) (term_of i s) (term_of v s) in
    let left : p.0 ≡ r = cc in
    let same : p.1 ≡ with_term s a new = cc in
    let array = good.declared a Arr w.0 in
    let index = term_sorted sorts i s w.1 good in
    let element = term_sorted sorts v s w.2 good in
    (rw left w.3, rw same (with_term_sorted sorts s a Arr new good w.0 ((array.0, array.1, index.0, index.1, element.0, element.1), refl)))
stepped_sorted sorts (syntax.If g c d r) s p e w good = absurd cc
stepped_sorted sorts (syntax.While g c r) s p e w good = absurd cc
stepped_sorted sorts (syntax.Hole h r) s p e w good = absurd cc

-- states one after the other
pub states_append : (sorts : Sorts) (first second : List State) → AreStatesSorted sorts first → AreStatesSorted sorts second →
    AreStatesSorted sorts (first ++ second)
states_append sorts [] second b d = d
states_append sorts (st ∷ first) second b d = (b.0, states_append sorts first second b.1 d)

-- one copy moved, with more facts
pub moved_sorted : (sorts : Sorts) (st : State) (c : Copy) (r : Code) (s : SymbolicStore) (more : List Assertion) → IsStateSorted sorts st →
    IsWellSorted sorts r → IsStoreSorted sorts s →
    AreFormsSorted sorts more → IsStateSorted sorts (next.with_facts (next.moved st c r s) more)
moved_sorted sorts st c r s more b well new facts = record {
  rest = one_copy (λ (p : Code) (t : SymbolicStore) (d : Copy). IsWellSorted sorts p) st.rest st.stores c r s well b.rest;
  stores = one_copy (λ (p : Code) (t : SymbolicStore) (d : Copy). IsStoreSorted sorts t) st.rest st.stores c r s new b.stores;
  facts = forms_append sorts st.facts more b.facts facts;
  target = b.target;
}

-- one copy moved
pub moved_alone : (sorts : Sorts) (st : State) (c : Copy) (r : Code) (s : SymbolicStore) → IsStateSorted sorts st → IsWellSorted sorts r →
    IsStoreSorted sorts s →
    IsStateSorted sorts (next.moved st c r s)
moved_alone sorts st c r s b well new = record {
  rest = one_copy (λ (p : Code) (t : SymbolicStore) (d : Copy). IsWellSorted sorts p) st.rest st.stores c r s well b.rest;
  stores = one_copy (λ (p : Code) (t : SymbolicStore) (d : Copy). IsStoreSorted sorts t) st.rest st.stores c r s new b.stores;
  facts = b.facts;
  target = b.target;
}

-- a copy that has done code
pub summary_sorted : (sorts : Sorts) (st : State) (c : Copy) (done r : Code) → IsStateSorted sorts st → IsWellSorted sorts done →
    IsWellSorted sorts r →
    IsStateSorted sorts (next.summary_state st c done r)
summary_sorted sorts st c done r b well left =
    let s = next.summarized done (st.stores c) in
    let good = summarized_sorted sorts done (st.stores c) well (b.stores c) in
    moved_sorted sorts st c r s (next.false_guard (last_guard done) s) b left good
    (false_guard_sorted sorts (last_guard done) s
    (λ (g : Condition) (e : last_guard done ≡ Some g). last_guard_well sorts done g well e) good)

-- the bodies of loops
bodies_well : (sorts : Sorts) (st : State) (set : Copies) → IsStateSorted sorts st → (c : Copy) → IsWellSorted sorts (next.bodies st set c)
bodies_well sorts st set b c = of (has set c)
  where
    of : (inside : Bool) → IsWellSorted sorts (if inside then loop_body (st.rest c) else syntax.End)
    of true = body_well sorts (st.rest c) (b.rest c)
    of false = tt

-- what is left after loops
after_loops_well : (sorts : Sorts) (st : State) (set : Copies) → IsStateSorted sorts st → (c : Copy) →
    IsWellSorted sorts (next.rest_after_loops st set c)
after_loops_well sorts st set b c = of (has set c)
  where
    of : (inside : Bool) → IsWellSorted sorts (if inside then rest_after 1 (st.rest c) else st.rest c)
    of true = rest_well sorts 1 (st.rest c) (b.rest c)
    of false = b.rest c

-- the facts of guards
guards_sorted : (sorts : Sorts) (st : State) (set turning : Copies) (s : Copy → SymbolicStore) → IsStateSorted sorts st →
    ((c : Copy) → IsStoreSorted sorts (s c)) →
    (cs : List Copy) → AreFormsSorted sorts (flat_map (next.guard_fact st set turning s) cs)
guards_sorted sorts st set turning s b all [] = tt
guards_sorted sorts st set turning s b all (c ∷ cs) =
    forms_append sorts (next.guard_fact st set turning s c) (flat_map (next.guard_fact st set turning s) cs)
    (of_one (has set c) (has turning c) (form_of (loop_guard (st.rest c)) (s c))
    (form_sorted sorts (loop_guard (st.rest c)) (s c) (guard_well sorts (st.rest c) (b.rest c)) (all c)))
    (guards_sorted sorts st set turning s b all cs)
  where
    of_one : (b d : Bool) (f : Assertion) → IsFormSorted sorts f → AreFormsSorted sorts (if b then (if d then f else negate f) ∷ [] else [])
    of_one true true f h = (h, tt)
    of_one true false f h = (negate_sorted sorts f h, tt)
    of_one false d f h = tt

-- the stores at the head of loops
head_stores_sorted : (sorts : Sorts) (st : State) (k : ℕ) (set : Copies) → IsStateSorted sorts st → (c : Copy) →
    IsStoreSorted sorts (next.head_stores st k set c)
head_stores_sorted sorts st k set b = renewed_sorted sorts k (next.bodies st set) st.stores (bodies_well sorts st set b) b.stores

-- the facts at the head of loops
head_sorted : (sorts : Sorts) (k : ℕ) (st : State) (set : Copies) (keep : Assertion) (turning : Copies) → IsStateSorted sorts st →
    IsFormSorted sorts keep →
    AreFormsSorted sorts (st.facts ++ next.head_facts st k set keep turning)
head_sorted sorts k st set keep turning b kept =
    let stores = next.head_stores st k set in
    let all = head_stores_sorted sorts st k set b in
    forms_append sorts st.facts (next.head_facts st k set keep turning) b.facts
    (forms_append sorts (all_at_stores stores (conj keep)) (flat_map (next.guard_fact st set turning stores) copies)
    (all_at_stores_sorted sorts stores all (conj keep) (conj_sorted sorts keep kept))
    (guards_sorted sorts st set turning stores b all copies))

-- the turns of loops
turn_sorted : (sorts : Sorts) (k : ℕ) (st : State) (set : Copies) (keep : Assertion) (turning : Copies) → IsStateSorted sorts st →
    IsFormSorted sorts keep →
    IsStateSorted sorts (next.turn_state st k set keep turning)
turn_sorted sorts k st set keep turning b kept = record {
  rest = bodies_well sorts st turning b;
  stores = head_stores_sorted sorts st k set b;
  facts = head_sorted sorts k st set keep turning b kept;
  target = conj_sorted sorts keep kept;
}

-- each of them
pub turns_sorted : (sorts : Sorts) (k : ℕ) (st : State) (set : Copies) (keep : Assertion) → IsStateSorted sorts st →
    IsFormSorted sorts keep →
    (vs : List Copies) → AreStatesSorted sorts (map (next.turn_state st k set keep) vs)
turns_sorted sorts k st set keep b kept [] = tt
turns_sorted sorts k st set keep b kept (v ∷ vs) = (turn_sorted sorts k st set keep v b kept, turns_sorted sorts k st set keep b kept vs)

-- after loops
pub after_sorted : (sorts : Sorts) (k : ℕ) (st : State) (set : Copies) (keep : Assertion) → IsStateSorted sorts st →
    IsFormSorted sorts keep →
    IsStateSorted sorts (next.after_loops_state st k set keep)
after_sorted sorts k st set keep b kept = record {
  rest = after_loops_well sorts st set b;
  stores = head_stores_sorted sorts st k set b;
  facts = head_sorted sorts k st set keep no_copies b kept;
  target = b.target;
}

-- the first statements
pub inner_sorted : (sorts : Sorts) (st : State) (counts : Copy → ℕ) (keep : Assertion) → IsStateSorted sorts st → IsFormSorted sorts keep →
    IsStateSorted sorts (next.inner_state st counts keep)
inner_sorted sorts st counts keep b kept = record {
  rest = λ (c : Copy). front_well sorts (counts c) (st.rest c) (b.rest c);
  stores = b.stores;
  facts = b.facts;
  target = conj_sorted sorts keep kept;
}

-- after them
pub after_block_sorted : (sorts : Sorts) (k : ℕ) (st : State) (counts : Copy → ℕ) (keep : Assertion) → IsStateSorted sorts st →
    IsFormSorted sorts keep →
    IsStateSorted sorts (next.after_block_state st k counts keep)
after_block_sorted sorts k st counts keep b kept =
    let stores = next.renewed k (next.fronts st counts) st.stores in
    let all = renewed_sorted sorts k (next.fronts st counts) st.stores
    (λ (c : Copy). front_well sorts (counts c) (st.rest c) (b.rest c)) b.stores in
    record {
      rest = λ (c : Copy). rest_well sorts (counts c) (st.rest c) (b.rest c);
      stores = all;
      facts = forms_append sorts st.facts (all_at_stores stores (conj keep)) b.facts
          (all_at_stores_sorted sorts stores all (conj keep) (conj_sorted sorts keep kept));
      target = b.target;
    }

-- the place of an output's cell
pub place_sorted : (sorts : Sorts) (x : ℕ) (sort : Sort) (c : Copy) → sorts x ≡ Some sort → HasSort sorts Num (place (x, sort) c)
place_sorted sorts x Num c e = (named_declared sorts x Num e, sort_is sorts x Num e)
place_sorted sorts x Arr c e = ((named_declared sorts x Arr e, sort_is sorts x Arr e, tt, refl), refl)

-- the goals of outputs
pub goals_sorted : (sorts : Sorts) (outputs : List (ℕ × Sort)) → AreOutputsDeclared sorts outputs →
    AreFormsSorted sorts (flat_map (λ (output : ℕ × Sort). keeps_goals (place output)) outputs)
goals_sorted sorts [] d = tt
goals_sorted sorts (output ∷ rest) d =
    let at = λ (c : Copy). place_sorted sorts output.0 output.1 c d.0 in
    forms_append sorts (keeps_goals (place output)) (flat_map (λ (o : ℕ × Sort). keeps_goals (place o)) rest)
    (((at O, at A), (at M, at A)), (((at O, at B), (at M, at B)), (((at O, at A), ((at A, at B), (at M, at O))), tt)))
    (goals_sorted sorts rest d.1)

-- the start store
pub start_store_sorted : (sorts : Sorts) → IsStoreSorted sorts start_store
start_store_sorted sorts = record {
  declared = λ (x : ℕ) (sort : Sort) (e : sorts x ≡ Some sort). (named_declared sorts x sort e, sort_is sorts x sort e);
  other = λ (x : ℕ) (e : sorts x ≡ None). refl;
}

-- the facts at the start
pub start_facts_sorted : (sorts : Sorts) (assumed : Option Condition) → IsAssumptionSorted sorts assumed →
    AreFormsSorted sorts (start_facts assumed)
start_facts_sorted sorts None w = tt
start_facts_sorted sorts (Some b) w = conj_sorted sorts (form_of b start_store)
    (form_sorted sorts b start_store w (start_store_sorted sorts))

-- the start
pub start_sorted : (sorts : Sorts) (t : Task) → IsTaskSorted sorts t → IsStateSorted sorts (start_state t)
start_sorted sorts t w = record {
  rest = w.programs;
  stores = λ (c : Copy). start_store_sorted sorts;
  facts = start_facts_sorted sorts t.assumed w.assumed;
  target = goals_sorted sorts t.outputs w.outputs;
}
