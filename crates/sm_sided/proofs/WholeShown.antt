-- The whole plan of one-sided programs is shown by its certificates.
use Rattle.sm_sided.proofs.Imports.{◌≡◌, ◌⊎◌, ℕ, nat_lt, false, Ok, List, [], ◌∷◌, map, length, inl, inr, refl, ap, sym, ◌∙◌, subst, flat_map, append-nil, Code, Condition, Copy, O, A, B, M, Task, Sorts, Sort, Num, Arr, Tree, Read, Cell, Assertion, fill_term, all_at_stores, BranchFact, Node, branches, due, expand, obligations, State, place, keeps_goals, start_store, start_of, summarized, IsOnly, whole_certificates, whole_plan, denied, denied_goals, facts_before, AreClosed, IsShown}
use Rattle.std.specs.Prelude.{Option}
use Rattle.sm_term.specs.Symbolic.{SymbolicStore}
use Rattle.sm_plan.specs.Nodes as node
use Rattle.sm_plan.specs.Plans.{Due}
use Rattle.sm_expand.specs.Tasks.{HasParts}
use Rattle.sm_expand.proofs.WholeLemmas.{not_deep, start_is}
use Rattle.sm_sided.specs.WholeCertificates.{Change, OfA, OfB, OfBoth}
use Rattle.sm_sided.proofs.GoalsClosed.{output_closed}
use Rattle.sm_sided.proofs.WholeExpands.{ReachesEnds, whole_reaches, ends_expand, whole_straight}

-- what is made of what each copy has
pub only_by : {T U : Type 0} (f : Copy → T) (v : Copy → U) (g : T → U) (change : Change) → ((c : Copy) → v c ≡ g (f c)) →
    IsOnly f change → IsOnly v change
only_by f v g OfA made only = (made B ∙ ap g only.0 ∙ sym (made O), made M ∙ ap g only.1 ∙ sym (made A))
only_by f v g OfB made only = (made A ∙ ap g only.0 ∙ sym (made O), made M ∙ ap g only.1 ∙ sym (made B))
only_by f v g OfBoth made only = (made M ∙ ap g only.0 ∙ sym (made A), made A ∙ ap g only.1 ∙ sym (made B))

-- the value of an output's cell in a store
value_in : ℕ × Sort → SymbolicStore → Tree
value_in (x, Num) s = s x
value_in (x, Arr) s = Read (s x) Cell

value_is : (s : Copy → SymbolicStore) (output : ℕ × Sort) (c : Copy) → fill_term s (place output c) ≡ value_in output (s c)
unfolding value_in
value_is s (x, Num) c = refl
value_is s (x, Arr) c = refl

-- the goals of outputs
targets_closed : (sorts : Sorts) (facts : List Assertion) (change : Change) (s : Copy → SymbolicStore) (outputs : List (ℕ × Sort)) →
    IsOnly s change →
    AreClosed sorts (map (denied facts) (all_at_stores s (flat_map (λ (output : ℕ × Sort). keeps_goals (place output)) outputs)))
    (whole_certificates change (length facts) (length outputs))
targets_closed sorts facts change s [] only = tt
targets_closed sorts facts change s (output ∷ outputs) only =
    output_closed sorts facts change (λ (c : Copy). fill_term s (place output c))
    (only_by s (λ (c : Copy). fill_term s (place output c)) (value_in output) change (value_is s output) only)
    (map (denied facts) (all_at_stores s (flat_map (λ (o : ℕ × Sort). keeps_goals (place o)) outputs)))
    (whole_certificates change (length facts) (length outputs)) (targets_closed sorts facts change s outputs only)

-- the branches of one node
one_due : (k : ℕ) (st : State) (node : Node) (goals : List Assertion) →
    flat_map denied_goals (due k st node goals) ≡ map (denied st.facts) goals
one_due k st node [] = refl
one_due k st node (g ∷ gs) = append-nil (map (denied st.facts) (g ∷ gs))

-- the obligations of the whole plan
pub whole_dues : (t : Task) (b : Option Condition) (outputs : List (ℕ × Sort)) (program : Copy → Code) → HasParts t b outputs program →
    (r : ReachesEnds program 0 (start_of b outputs program))
    × (obligations t (whole_plan program) ≡ Ok (due r.number r.last node.Ends (all_at_stores r.last.stores r.last.target)))
whole_dues t b outputs program has =
    let st = start_of b outputs program in
    let r : ReachesEnds program 0 st = whole_reaches program 0 st (λ (c : Copy). refl) in
    let flat : nat_lt 1000 (branches (whole_plan program)) ≡ false = ap (nat_lt 1000) (whole_straight program) in (
      r,
      not_deep t (whole_plan program) flat
          ∙ ap (λ (s : State). expand 0 s (whole_plan program)) (sym (start_is t b outputs program has))
          ∙ r.expands ∙ ends_expand r.number r.last r.ends.rest,
    )

-- how many facts stand before the goals of a node, where it has goals
counted : (n k : ℕ) (st : State) (node : Node) (goals : List Assertion) → n ≡ facts_before (due k st node goals) →
    (goals ≡ []) ⊎ (n ≡ length st.facts)
counted n k st node [] e = inl refl
counted n k st node (g ∷ gs) e = inr e

-- the goals of a node that asks those of outputs
asked_closed : (sorts : Sorts) (facts goals : List Assertion) (change : Change) (n : ℕ) (s : Copy → SymbolicStore) (outputs : List (ℕ × Sort)) →
    goals ≡ all_at_stores s (flat_map (λ (output : ℕ × Sort). keeps_goals (place output)) outputs) →
    (goals ≡ []) ⊎ (n ≡ length facts) → IsOnly s change →
    AreClosed sorts (map (denied facts) goals) (whole_certificates change n (length outputs))
asked_closed sorts facts goals change n s outputs e (inr count) only =
    subst (λ (m : ℕ). AreClosed sorts (map (denied facts) goals) (whole_certificates change m (length outputs))) (sym count)
    (subst (λ (gs : List Assertion). AreClosed sorts (map (denied facts) gs) (whole_certificates change (length facts) (length outputs)))
    (sym e) (targets_closed sorts facts change s outputs only))
asked_closed sorts facts goals change n s [] e (inl none) only =
    subst (λ (gs : List Assertion). AreClosed sorts (map (denied facts) gs) []) (sym none) tt
asked_closed sorts facts goals change n s (output ∷ outputs) e (inl none) only = absurd (some (sym e ∙ none))
  where
    some : {X : Type 0} {x y z : X} {xs : List X} → x ∷ y ∷ z ∷ xs ≡ [] → ⊥
    some h = absurd cc

-- it is shown
pub whole_shown : (sorts : Sorts) (t : Task) (b : Option Condition) (outputs : List (ℕ × Sort)) (program : Copy → Code) (change : Change) (n : ℕ)
    → HasParts t b outputs program → IsOnly program change →
    ((dues : List Due) → obligations t (whole_plan program) ≡ Ok dues → n ≡ facts_before dues) →
    IsShown sorts t (whole_plan program) (whole_certificates change n (length outputs))
whole_shown sorts t b outputs program change n has only before =
    let w = whole_dues t b outputs program has in
    let st = w.0.last in
    let goals = all_at_stores st.stores st.target in
    let dues = due w.0.number st node.Ends goals in
    let known = counted n w.0.number st node.Ends goals (before dues w.1) in
    let all = only_by program st.stores (λ (c : Code). summarized c start_store) change w.0.ends.stores only in
    record {
      dues = dues;
      expands = w.1;
      closed = subst (λ (bs : List (List BranchFact)). AreClosed sorts bs (whole_certificates change n (length outputs)))
          (sym (one_due w.0.number st node.Ends goals))
          (asked_closed sorts st.facts goals change n st.stores outputs (ap (all_at_stores st.stores) w.0.ends.target) known all);
    }
