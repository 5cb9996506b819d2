-- States that name no new value of a node or of a later one, and what they open.
use Rattle.sm_plan.proofs.Imports.{◌≡◌, ◌<◌, ◌≤◌, ℕ, suc, Bool, true, false, if◌then◌else◌, Option, Some, None, List, [], ◌∷◌, ◌++◌, map, arith, ◌==◌, flat_map, Sort, Num, Arr, Expression, Condition, Code, Cmp, assigns, Copy, O, A, B, M, Task, Tree, Lit, Start, Havoc, Slot, Read, Neg, Add, Sub, Mul, Fun, Arguments, Given, Assertion, negate, conj, SymbolicStore, with_term, term_of, comparison_form, form_of, fill_term, fill_arguments, at_stores, all_at_stores, IsBelow, AreBelow, IsFormBelow, AreFormsBelow, tree_later, forms_later, below_append, inputs, Copies, copies, has, no_copies, loop_guard, State, place, keeps_goals, start_store, start_facts, start_state, IsStateBelow, AreStatesBelow}
use Rattle.sm_syntax.specs.declared.tree.Cmp.TheVariants as cmp
use Rattle.sm_syntax.specs.claim.Syntax as syntax
use Rattle.sm_term.specs.Terms.{Cell, Write, Over}
use Rattle.sm_term.specs.Assertions.{Yes, No, Eq, Ne, Le, Lt, And, Or}
use Rattle.sm_plan.specs.Successors as next
use Rattle.sm_plan.proofs.CopiesLemmas.{one_copy}

-- a symbolic store names no new value of a node or of a later one
abbrev pub IsStoreBelow : ℕ → SymbolicStore → Type 0
IsStoreBelow k s = (x : ℕ) → IsBelow k (s x)

-- the term of an expression
pub term_below : (k : ℕ) (e : Expression) (s : SymbolicStore) → IsStoreBelow k s → IsBelow k (term_of e s)
term_below k (syntax.Lit z) s b = tt
term_below k (syntax.Var x) s b = b x
term_below k (syntax.Read a i) s b = (b a, term_below k i s b)
term_below k (syntax.Neg e) s b = term_below k e s b
term_below k (syntax.Plus d e) s b = (term_below k d s b, term_below k e s b)
term_below k (syntax.Minus d e) s b = (term_below k d s b, term_below k e s b)
term_below k (syntax.Times d e) s b = (term_below k d s b, term_below k e s b)

-- a comparison of terms
compared_below : (k : ℕ) (op : Cmp) (t u : Tree) → IsBelow k t → IsBelow k u → IsFormBelow k (comparison_form op t u)
compared_below k cmp.Eq t u first second = (first, second)
compared_below k cmp.Ne t u first second = (first, second)
compared_below k cmp.Lt t u first second = (first, second)
compared_below k cmp.Le t u first second = (first, second)
compared_below k cmp.Gt t u first second = (second, first)
compared_below k cmp.Ge t u first second = (second, first)

-- a formula's contrary
pub negate_below : (k : ℕ) (f : Assertion) → IsFormBelow k f → IsFormBelow k (negate f)
negate_below k Yes b = tt
negate_below k No b = tt
negate_below k (Eq sort t u) b = b
negate_below k (Ne sort t u) b = b
negate_below k (Le t u) b = (b.1, b.0)
negate_below k (Lt t u) b = (b.1, b.0)
negate_below k (And p q) b = (negate_below k p b.0, negate_below k q b.1)
negate_below k (Or p q) b = (negate_below k p b.0, negate_below k q b.1)

-- the formula of a condition
pub form_below : (k : ℕ) (b : Condition) (s : SymbolicStore) → IsStoreBelow k s → IsFormBelow k (form_of b s)
form_below k syntax.Yes s b = tt
form_below k syntax.No s b = tt
form_below k (syntax.Compare op d e) s b = compared_below k op (term_of d s) (term_of e s) (term_below k d s b) (term_below k e s b)
form_below k (syntax.Not c) s b = negate_below k (form_of c s) (form_below k c s b)
form_below k (syntax.And c d) s b = (form_below k c s b, form_below k d s b)
form_below k (syntax.Or c d) s b = (form_below k c s b, form_below k d s b)

-- the parts of a conjunction
pub conj_below : (k : ℕ) (f : Assertion) → IsFormBelow k f → AreFormsBelow k (conj f)
conj_below k Yes b = tt
conj_below k No b = (tt, tt)
conj_below k (Eq sort t u) b = (b, tt)
conj_below k (Ne sort t u) b = (b, tt)
conj_below k (Le t u) b = (b, tt)
conj_below k (Lt t u) b = (b, tt)
conj_below k (And p q) b = below_append k (conj p) (conj q) (conj_below k p b.0) (conj_below k q b.1)
conj_below k (Or p q) b = (b, tt)

mutual
  -- a term at stores
  pub filled_below : (k : ℕ) (s : Copy → SymbolicStore) → ((c : Copy) → IsStoreBelow k (s c)) → (t : Tree) → IsBelow k t
      → IsBelow k (fill_term s t)
  filled_below k s all (Lit z) b = tt
  filled_below k s all (Start x) b = tt
  filled_below k s all (Havoc j c x) b = b
  filled_below k s all (Slot c x) b = all c x
  filled_below k s all Cell b = tt
  filled_below k s all (Read a i) b = (filled_below k s all a b.0, filled_below k s all i b.1)
  filled_below k s all (Write a i e) b = (filled_below k s all a b.0, filled_below k s all i b.1, filled_below k s all e b.2)
  filled_below k s all (Neg t) b = filled_below k s all t b
  filled_below k s all (Add t u) b = (filled_below k s all t b.0, filled_below k s all u b.1)
  filled_below k s all (Sub t u) b = (filled_below k s all t b.0, filled_below k s all u b.1)
  filled_below k s all (Mul t u) b = (filled_below k s all t b.0, filled_below k s all u b.1)
  filled_below k s all (Fun c x args) b = given_below k s all args b

  -- arguments at stores name no new value of node k or later, where neither they nor the stores do
  pub given_below : (k : ℕ) (s : Copy → SymbolicStore) → ((c : Copy) → IsStoreBelow k (s c)) → (args : Arguments) → AreBelow k args
      → AreBelow k (fill_arguments s args)
  given_below k s all Over b = tt
  given_below k s all (Given x t rest) b = (filled_below k s all t b.0, given_below k s all rest b.1)

-- a formula at stores names no new value of node k or later, where neither it nor the stores do
pub at_stores_below : (k : ℕ) (s : Copy → SymbolicStore) → ((c : Copy) → IsStoreBelow k (s c)) → (f : Assertion) → IsFormBelow k f
    → IsFormBelow k (at_stores s f)
at_stores_below k s all Yes b = tt
at_stores_below k s all No b = tt
at_stores_below k s all (Eq sort t u) b = (filled_below k s all t b.0, filled_below k s all u b.1)
at_stores_below k s all (Ne sort t u) b = (filled_below k s all t b.0, filled_below k s all u b.1)
at_stores_below k s all (Le t u) b = (filled_below k s all t b.0, filled_below k s all u b.1)
at_stores_below k s all (Lt t u) b = (filled_below k s all t b.0, filled_below k s all u b.1)
at_stores_below k s all (And p q) b = (at_stores_below k s all p b.0, at_stores_below k s all q b.1)
at_stores_below k s all (Or p q) b = (at_stores_below k s all p b.0, at_stores_below k s all q b.1)

-- formulas at stores name no new value of node k or later, where neither they nor the stores do
pub all_at_stores_below : (k : ℕ) (s : Copy → SymbolicStore) → ((c : Copy) → IsStoreBelow k (s c)) → (fs : List Assertion)
    → AreFormsBelow k fs → AreFormsBelow k (all_at_stores s fs)
all_at_stores_below k s all [] b = tt
all_at_stores_below k s all (f ∷ fs) b = (at_stores_below k s all f b.0, all_at_stores_below k s all fs b.1)

-- a choice of two terms
choice_below : (k : ℕ) (b : Bool) (t u : Tree) → IsBelow k t → IsBelow k u → IsBelow k (if b then t else u)
choice_below k true t u first second = first
choice_below k false t u first second = second

-- a new term for a name
pub with_term_below : (k : ℕ) (s : SymbolicStore) (x : ℕ) (t : Tree) → IsStoreBelow k s → IsBelow k t → IsStoreBelow k (with_term s x t)
with_term_below k s x t b new y = choice_below k (y == x) t (s y) new (b y)

-- names with their present terms
present_below : (k : ℕ) (s : SymbolicStore) → IsStoreBelow k s → (names : List ℕ) → AreBelow k (next.present s names)
present_below k s b [] = tt
present_below k s b (x ∷ rest) = (b x, present_below k s b rest)

-- summaries
pub summarized_below : (k : ℕ) (c : Code) (s : SymbolicStore) → IsStoreBelow k s → IsStoreBelow k (next.summarized c s)
summarized_below k c s b x =
    choice_below k (assigns c x) (Fun c x (next.present s (inputs c x))) (s x) (present_below k s b (inputs c x)) (b x)

-- that a guard is false
pub false_guard_below : (k : ℕ) (g : Option Condition) (s : SymbolicStore) → IsStoreBelow k s → AreFormsBelow k (next.false_guard g s)
false_guard_below k None s b = tt
false_guard_below k (Some g) s b = (negate_below k (form_of g s) (form_below k g s b), tt)

-- what a simple statement leaves
pub stepped_below : (k : ℕ) (c : Code) (s : SymbolicStore) (p : Code × SymbolicStore) → next.stepped c s ≡ Some p → IsStoreBelow k s
    → IsStoreBelow k p.1
stepped_below k syntax.End s p e b = absurd cc
stepped_below k (syntax.Skip r) s p e b = let same : p.1 ≡ s = cc in rw same b
stepped_below k (syntax.Assign x v r) s p e b =
    let same : p.1 ≡ with_term s x (term_of v s) = cc in
    rw same (with_term_below k s x (term_of v s) b (term_below k v s b))
stepped_below k (syntax.Write a i v r) s p e b =
    let new = Write (s a) (term_of i s) (term_of v s) in
    let same : p.1 ≡ with_term s a new = cc in
    rw same (with_term_below k s a new b (b a, term_below k i s b, term_below k v s b))
stepped_below k (syntax.If g c d r) s p e b = absurd cc
stepped_below k (syntax.While g c r) s p e b = absurd cc
stepped_below k (syntax.Hole h r) s p e b = absurd cc

-- a store later
pub store_later : (k : ℕ) (s : SymbolicStore) → IsStoreBelow k s → IsStoreBelow (suc k) s
store_later k s b x = tree_later k (suc k) (omega arith) (s x) (b x)

-- a state later
pub state_later : (k l : ℕ) (st : State) → k ≤ l → IsStateBelow k st → IsStateBelow l st
state_later k l st more b = record {
  stores = λ (c : Copy) (x : ℕ). tree_later k l more (st.stores c x) (b.stores c x);
  facts = forms_later k l more st.facts b.facts;
  target = forms_later k l more st.target b.target;
}

-- states that name no new value of node k or later name none of node l or later, if k ≤ l
pub states_later : (k l : ℕ) (states : List State) → k ≤ l → AreStatesBelow k states → AreStatesBelow l states
states_later k l [] more b = tt
states_later k l (st ∷ states) more b = (state_later k l st more b.0, states_later k l states more b.1)

-- states one after the other
pub states_append : (k : ℕ) (first second : List State) → AreStatesBelow k first → AreStatesBelow k second
    → AreStatesBelow k (first ++ second)
states_append k [] second b d = d
states_append k (st ∷ first) second b d = (b.0, states_append k first second b.1 d)

-- new values of node k
pub renewed_below : (k : ℕ) (done : Copy → Code) (s : Copy → SymbolicStore) → ((c : Copy) → IsStoreBelow k (s c)) → (c : Copy)
    → IsStoreBelow (suc k) (next.renewed k done s c)
renewed_below k done s all c x =
    let now : k < suc k = omega arith in
    choice_below (suc k) (assigns (done c) x) (Havoc k c x) (s c x) now (tree_later k (suc k) (omega arith) (s c x) (all c x))

-- one copy moved, with more facts
pub moved_below : (k : ℕ) (st : State) (c : Copy) (r : Code) (s : SymbolicStore) (more : List Assertion) → IsStateBelow k st
    → IsStoreBelow k s → AreFormsBelow k more →
    IsStateBelow k (next.with_facts (next.moved st c r s) more)
moved_below k st c r s more b new facts = record {
  stores = one_copy (λ (p : Code) (t : SymbolicStore) (d : Copy). IsStoreBelow k t) st.rest st.stores c r s new b.stores;
  facts = below_append k st.facts more b.facts facts;
  target = b.target;
}

-- the facts of guards
guards_below : (k : ℕ) (st : State) (set turning : Copies) (s : Copy → SymbolicStore) → ((c : Copy) → IsStoreBelow k (s c)) →
    (cs : List Copy) → AreFormsBelow k (flat_map (next.guard_fact st set turning s) cs)
guards_below k st set turning s all [] = tt
guards_below k st set turning s all (c ∷ cs) =
    below_append k (next.guard_fact st set turning s c) (flat_map (next.guard_fact st set turning s) cs)
    (of_one (has set c) (has turning c) (form_of (loop_guard (st.rest c)) (s c)) (form_below k (loop_guard (st.rest c)) (s c) (all c)))
    (guards_below k st set turning s all cs)
  where
    of_one : (b d : Bool) (f : Assertion) → IsFormBelow k f → AreFormsBelow k (if b then (if d then f else negate f) ∷ [] else [])
    of_one true true f h = (h, tt)
    of_one true false f h = (negate_below k f h, tt)
    of_one false d f h = tt

-- the facts at the head of loops
pub head_below : (k : ℕ) (st : State) (set : Copies) (keep : Assertion) (turning : Copies) → IsStateBelow k st → IsFormBelow k keep →
    AreFormsBelow (suc k) (st.facts ++ next.head_facts st k set keep turning)
head_below k st set keep turning b fresh =
    let stores = next.head_stores st k set in
    let all = renewed_below k (next.bodies st set) st.stores b.stores in
    below_append (suc k) st.facts (next.head_facts st k set keep turning) (forms_later k (suc k) (omega arith) st.facts b.facts)
    (below_append (suc k) (all_at_stores stores (conj keep)) (flat_map (next.guard_fact st set turning stores) copies)
    (all_at_stores_below (suc k) stores all (conj keep) (forms_later k (suc k) (omega arith) (conj keep) (conj_below k keep fresh)))
    (guards_below (suc k) st set turning stores all copies))

-- the turns of loops
pub turn_below : (k : ℕ) (st : State) (set : Copies) (keep : Assertion) (turning : Copies) → IsStateBelow k st → IsFormBelow k keep →
    IsStateBelow (suc k) (next.turn_state st k set keep turning)
turn_below k st set keep turning b fresh = record {
  stores = renewed_below k (next.bodies st set) st.stores b.stores;
  facts = head_below k st set keep turning b fresh;
  target = forms_later k (suc k) (omega arith) (conj keep) (conj_below k keep fresh);
}

-- each of them
pub turns_below : (k : ℕ) (st : State) (set : Copies) (keep : Assertion) → IsStateBelow k st → IsFormBelow k keep →
    (vs : List Copies) → AreStatesBelow (suc k) (map (next.turn_state st k set keep) vs)
turns_below k st set keep b fresh [] = tt
turns_below k st set keep b fresh (v ∷ vs) = (turn_below k st set keep v b fresh, turns_below k st set keep b fresh vs)

-- after loops
pub after_below : (k : ℕ) (st : State) (set : Copies) (keep : Assertion) → IsStateBelow k st → IsFormBelow k keep
    → IsStateBelow (suc k) (next.after_loops_state st k set keep)
after_below k st set keep b fresh = record {
  stores = renewed_below k (next.bodies st set) st.stores b.stores;
  facts = head_below k st set keep no_copies b fresh;
  target = forms_later k (suc k) (omega arith) st.target b.target;
}

-- the first statements
pub inner_below : (k : ℕ) (st : State) (counts : Copy → ℕ) (keep : Assertion) → IsStateBelow k st → IsFormBelow k keep
    → IsStateBelow (suc k) (next.inner_state st counts keep)
inner_below k st counts keep b fresh = record {
  stores = λ (c : Copy). store_later k (st.stores c) (b.stores c);
  facts = forms_later k (suc k) (omega arith) st.facts b.facts;
  target = forms_later k (suc k) (omega arith) (conj keep) (conj_below k keep fresh);
}

-- after them
pub after_block_below : (k : ℕ) (st : State) (counts : Copy → ℕ) (keep : Assertion) → IsStateBelow k st → IsFormBelow k keep
    → IsStateBelow (suc k) (next.after_block_state st k counts keep)
after_block_below k st counts keep b fresh =
    let stores = next.renewed k (next.fronts st counts) st.stores in
    let all = renewed_below k (next.fronts st counts) st.stores b.stores in
    record {
      stores = all;
      facts =
          below_append (suc k) st.facts (all_at_stores stores (conj keep)) (forms_later k (suc k) (omega arith) st.facts b.facts)
          (all_at_stores_below (suc k) stores all (conj keep) (forms_later k (suc k) (omega arith) (conj keep) (conj_below k keep fresh)));
      target = forms_later k (suc k) (omega arith) st.target b.target;
    }

-- the goals of an output
place_below : (k : ℕ) (output : ℕ × Sort) (c : Copy) → IsBelow k (place output c)
place_below k (x, Num) c = tt
place_below k (x, Arr) c = (tt, tt)

goals_below : (k : ℕ) (outputs : List (ℕ × Sort)) → AreFormsBelow k (flat_map (λ (output : ℕ × Sort). keeps_goals (place output)) outputs)
goals_below k [] = tt
goals_below k (output ∷ rest) =
    let at = place_below k output in
    below_append k (keeps_goals (place output)) (flat_map (λ (o : ℕ × Sort). keeps_goals (place o)) rest)
    (((at O, at A), (at M, at A)), (((at O, at B), (at M, at B)), (((at O, at A), ((at A, at B), (at M, at O))), tt)))
    (goals_below k rest)

-- the facts at the start
start_facts_below : (k : ℕ) (assumed : Option Condition) → AreFormsBelow k (start_facts assumed)
start_facts_below k None = tt
start_facts_below k (Some b) = conj_below k (form_of b start_store) (form_below k b start_store (λ (x : ℕ). tt))

-- the start
pub start_below : (k : ℕ) (t : Task) → IsStateBelow k (start_state t)
start_below k t = record {
  stores = λ (c : Copy) (x : ℕ). tt;
  facts = start_facts_below k t.assumed;
  target = goals_below k t.outputs;
}
