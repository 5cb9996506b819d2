-- Nodes that move one copy: simple statements, summaries and branches.
use Rattle.sm_plan.proofs.Imports.{◌≡◌, ◌⊎◌, ℕ, Bool, true, false, ◌||◌, IsTrue, if◌then◌else◌, Option, Some, None, List, [], ◌∷◌, ◌==◌, inl, inr, refl, ap, sym, ◌∙◌, subst, ⊎_elim, fun_ext, same_Some, eqb-true, is_in, Condition, Code, End, append, Value, Array, number, array, Store, put, with_element, value_of, truth_of, and_then, run, assigns, Copy, run-append, unassigned, inputs, Tree, Fun, Arguments, Given, Structure, value_at, meaning, store_given, Assertion, Holds, AllHold, negate, SymbolicStore, store_meant, with_term, term_of, form_of, form_means, holds_append, front, rest_after, last_guard, State, follows, both_ways, IsSound, AreSound}
use Rattle.sm_syntax.specs.claim.Syntax.{Skip, Assign, Write, If, While, Hole}
use Rattle.sm_deps.specs.Laws.{EndAlike}
use Rattle.sm_deps.proofs.InputsSound.{inputs_alike}
use Rattle.sm_term.specs.Terms.{Over}
use Rattle.sm_term.specs.Terms as term
use Rattle.sm_term.proofs.SymbolicLemmas.{term_means}
use Rattle.sm_term.proofs.AssertionsLemmas.{contrary}
use Rattle.sm_plan.specs.Successors as next
use Rattle.sm_plan.specs.Nodes.{Opened}
use Rattle.sm_plan.proofs.CopiesLemmas.{one_copy}
use Rattle.sm_plan.proofs.StatementsLemmas.{run_cut, last_guard_false}

-- the meaning of a choice of terms
pub meaning_choice : (m : Structure) (b : Bool) (t u : Tree) → meaning m (if b then t else u) ≡ if b then meaning m t else meaning m u
meaning_choice m true t u = refl
meaning_choice m false t u = refl

-- a new term means a new value
pub with_term_means : (m : Structure) (s : SymbolicStore) (x : ℕ) (t : Tree)
    → store_meant m (with_term s x t) ≡ put (store_meant m s) x (meaning m t)
with_term_means m s x t = fun_ext (λ (y : ℕ). meaning_choice m (y == x) t (s y))

-- a simple statement in symbols is that statement in stores
step_runs : (m : Structure) (n : ℕ) (c : Code) (s : SymbolicStore) (p : Code × SymbolicStore) → next.stepped c s ≡ Some p →
    run n c (store_meant m s) ≡ run n p.0 (store_meant m p.1)
step_runs m n End s p e = absurd cc
step_runs m n (Skip k) s p e = let same : p ≡ (k, s) = sym (same_Some (k, s) p e) in rw same refl
step_runs m n (Assign x v k) s p e =
    let new = with_term s x (term_of v s) in
    let same : p ≡ (k, new) = sym (same_Some (k, new) p e) in
    rw same (sym (ap (λ (t : Store). run n k t)
    (with_term_means m s x (term_of v s) ∙ ap (λ (w : Value). put (store_meant m s) x w) (term_means m v s))))
step_runs m n (Write a i v k) s p e =
    let new = with_term s a (term.Write (s a) (term_of i s) (term_of v s)) in
    let same : p ≡ (k, new) = sym (same_Some (k, new) p e) in
    let value : meaning m (term.Write (s a) (term_of i s) (term_of v s)) ≡ Array
    (with_element (array (store_meant m s a)) (number (value_of i (store_meant m s))) (number (value_of v (store_meant m s)))) =
    rw (term_means m i s, term_means m v s) refl in
    rw same
    (sym
    (ap (λ (t : Store). run n k t)
    (with_term_means m s a (term.Write (s a) (term_of i s) (term_of v s)) ∙ ap (λ (w : Value). put (store_meant m s) a w) value)))
step_runs m n (If b c d k) s p e = absurd cc
step_runs m n (While b c k) s p e = absurd cc
step_runs m n (Hole h k) s p e = absurd cc

-- where the rest and store of one copy are exchanged for others with the same ends, and more facts hold
pub one_moved : (st : State) (c : Copy) (k : Code) (s : SymbolicStore) (more : List Assertion) →
    ((m : Structure) (t : Store) → run m.bound (st.rest c) (store_meant m (st.stores c)) ≡ Some t
    → AllHold m more × (run m.bound k (store_meant m s) ≡ Some t)) →
    IsSound (next.with_facts (next.moved st c k s) more) → IsSound st
one_moved st c k s more goes follows m end facts ends =
    let here = goes m (end c) (ends c) in
    follows m end (holds_append m st.facts more facts here.0)
    (one_copy (λ (r : Code) (t : SymbolicStore) (d : Copy). run m.bound r (store_meant m t) ≡ Some (end d)) st.rest st.stores c k s here.1
    ends)

-- a simple statement
pub step_sound : (st : State) (c : Copy) (p : Code × SymbolicStore) → next.stepped (st.rest c) (st.stores c) ≡ Some p
    → IsSound (next.moved st c p.0 p.1) → IsSound st
step_sound st c p e follows m end facts ends =
    follows m end facts
    (one_copy (λ (r : Code) (t : SymbolicStore) (d : Copy). run m.bound r (store_meant m t) ≡ Some (end d)) st.rest st.stores c p.0 p.1
    (sym (step_runs m m.bound (st.rest c) (st.stores c) p e) ∙ ends c) ends)

-- a branch: the code that is left where its guard is true, or where it is false
fork_ends : (n : ℕ) (b : Bool) (c d k : Code) (s t : Store) → and_then (if b then run n c s else run n d s) (run n k) ≡ Some t →
    ((b ≡ true) × (run n (append c k) s ≡ Some t)) ⊎ ((b ≡ false) × (run n (append d k) s ≡ Some t))
fork_ends n true c d k s t e = inl (refl, run-append n c k s ∙ e)
fork_ends n false c d k s t e = inr (refl, run-append n d k s ∙ e)

-- both ways of a branch
fork_sound : (st : State) (c : Copy) (b : Condition) (yes' no' k : Code) → st.rest c ≡ If b yes' no' k →
    IsSound (next.branch_state st c (append yes' k) (form_of b (st.stores c))) →
    IsSound (next.branch_state st c (append no' k) (negate (form_of b (st.stores c)))) → IsSound st
fork_sound st c b first second k is left right m end facts ends =
    let s = st.stores c in
    let σ = store_meant m s in
    let f = form_of b s in
    let end_here : run m.bound (If b first second k) σ ≡ Some (end c) = subst (λ (r : Code). run m.bound r σ ≡ Some (end c)) is (ends c) in
    let ways = one_copy (λ (r : Code) (t : SymbolicStore) (d : Copy). run m.bound r (store_meant m t) ≡ Some (end d)) st.rest st.stores c in
    ⊎_elim
    (λ (p : (truth_of b σ ≡ true) × (run m.bound (append first k) σ ≡ Some (end c))).
    left m end (holds_append m st.facts (f ∷ []) facts ((form_means m b s).1 p.0, tt)) (ways (append first k) s p.1 ends))
    (λ (p : (truth_of b σ ≡ false) × (run m.bound (append second k) σ ≡ Some (end c))).
    right m end (holds_append m st.facts (negate f ∷ []) facts
    ((contrary m f).1 (λ (h : Holds m f). let g = (form_means m b s).0 h in let q = p.0 in absurd cc), tt))
    (ways (append second k) s p.1 ends))
    (fork_ends m.bound (truth_of b σ) first second k σ (end c) end_here)

-- where both states that a node opens at a branch are sound, its own state is
pub both_ways_sound : (st : State) (c : Copy) (code : Code) (q : Opened) → st.rest c ≡ code → both_ways st c code ≡ Some q
    → AreSound q.states → IsSound st
both_ways_sound st c End q is e all = absurd cc
both_ways_sound st c (Skip k) q is e all = absurd cc
both_ways_sound st c (Assign x v k) q is e all = absurd cc
both_ways_sound st c (Write a i v k) q is e all = absurd cc
both_ways_sound st c (If b first second k) q is e all =
    let f = form_of b (st.stores c) in
    let states = next.branch_state st c (append first k) f ∷ next.branch_state st c (append second k) (negate f) ∷ [] in
    let same : follows states ≡ q = same_Some (follows states) q e in
    let both : AreSound states = subst (λ (r : Opened). AreSound r.states) (sym same) all in
    fork_sound st c b first second k is both.0 both.1.0
both_ways_sound st c (While b body k) q is e all = absurd cc
both_ways_sound st c (Hole h k) q is e all = absurd cc

-- a present term, where its name is listed
present_at : (m : Structure) (s : SymbolicStore) (names : List ℕ) (x : ℕ) → IsTrue (is_in names x)
    → store_given m (next.present s names) x ≡ meaning m (s x)
present_at m s [] x h = absurd (let e = h in cc)
present_at m s (y ∷ rest) x h = at (x == y) refl h (present_at m s rest x)
  where
    at : (b : Bool) → (x == y) ≡ b → (b || is_in rest x) ≡ true
        → (IsTrue (is_in rest x) → store_given m (next.present s rest) x ≡ meaning m (s x)) →
        (if b then meaning m (s y) else store_given m (next.present s rest) x) ≡ meaning m (s x)
    at true e g later = ap (λ (z : ℕ). meaning m (s z)) (sym (eqb-true x y e))
    at false e g later = later g

-- the value at an end that is like another
alike_value : (o : Option Store) (u : Store) (x : ℕ) → EndAlike (λ (v w : Store). v x ≡ w x) o (Some u) → value_at o x ≡ u x
alike_value None u x h = elim h [ ]
alike_value (Some v) u x h = h

-- what code assigns is its summary, and what it doesn't assign stays
summarized_means : (m : Structure) (c : Code) (s : SymbolicStore) (u : Store) → run m.bound c (store_meant m s) ≡ Some u
    → store_meant m (next.summarized c s) ≡ u
summarized_means m c s u end = fun_ext (λ (x : ℕ). at x (assigns c x) refl)
  where
    at : (x : ℕ) (b : Bool) → assigns c x ≡ b → meaning m (if b then Fun c x (next.present s (inputs c x)) else s x) ≡ u x
    at x true e =
        alike_value (run m.bound c (store_given m (next.present s (inputs c x)))) u x
        (subst (λ (o : Option Store). EndAlike (λ (v w : Store). v x ≡ w x) (run m.bound c (store_given m (next.present s (inputs c x)))) o)
        end
        (inputs_alike m.bound c x (store_given m (next.present s (inputs c x))) (store_meant m s)
        (λ (y : ℕ) (h : IsTrue (is_in (inputs c x) y)). present_at m s (inputs c x) y h)))
    at x false e = sym (unassigned m.bound c x (store_meant m s) u e end)

-- the guard of a last loop is false in symbols
false_guard_holds : (m : Structure) (n : ℕ) (c : Code) (σ u : Store) (s : SymbolicStore) → run n c σ ≡ Some u → store_meant m s ≡ u →
    (g : Option Condition) → last_guard c ≡ g → AllHold m (next.false_guard g s)
false_guard_holds m n c σ u s end same None e = tt
false_guard_holds m n c σ u s end same (Some b) e =
    let false_there : truth_of b (store_meant m s) ≡ false = ap (truth_of b) same ∙ last_guard_false n c σ u b e end in
    ((contrary m (form_of b s)).1 (λ (h : Holds m (form_of b s)). let g = (form_means m b s).0 h in absurd cc), tt)

-- a summary
pub summary_sound : (st : State) (c : Copy) (n : ℕ) → IsSound (next.summary_state st c (front n (st.rest c)) (rest_after n (st.rest c)))
    → IsSound st
summary_sound st c n follows =
    let done = front n (st.rest c) in
    let s = next.summarized done (st.stores c) in
    one_moved st c (rest_after n (st.rest c)) s (next.false_guard (last_guard done) s)
    (λ (m : Structure) (t : Store) (e : run m.bound (st.rest c) (store_meant m (st.stores c)) ≡ Some t).
    let cut = run_cut m.bound n (st.rest c) (store_meant m (st.stores c)) t e in
    let same = summarized_means m done (st.stores c) cut.0 cut.1 in (
      false_guard_holds m m.bound done (store_meant m (st.stores c)) cut.0 s cut.1 same (last_guard done) refl,
      ap (λ (u : Store). run m.bound (rest_after n (st.rest c)) u) same ∙ cut.2,
    ))
    follows
