-- The obligations of a node at a state, and then of what waits.
use Rattle.sm_expand.proofs.Imports.{◌≡◌, ℕ, suc, ◌+◌, ◌==◌, ◌&&◌, Bool, if◌then◌else◌, Option, Some, None, Result, Ok, Err, List, [], ◌∷◌, ◌++◌, length, map, take, refl, sym, ap, ◌∙◌, arith, append_assoc, eq-eqb, ne_eqb, Sorts, Formula, Assertion, Tree, Successor, Node, opened_by, rule_of, is_end, Fault, Wrong, joined, opened, due, count, size, sizes, expand, expand_all, State, forms_in, state_in, successor_in, Waiting, NumberedPlan, At, NumberedPlans, Over, More, node_over, plan_over, plans_over, head, below, list_of, plans_before, numbered_at, asked, expand_pairs, waits_as, waits_with, size_of, sizes_of}
use Rattle.sm_plan.specs.Nodes as node
use Rattle.sm_plan.specs.Plans as plain
use Rattle.sm_plan.specs.Plans.{Due}
use Rattle.sm_expand.specs.Cursors.{Cursor}
use Rattle.sm_expand.specs.Walks.{weight}

-- obligations of three
pub joined_assoc : (a b c : Result (List Due) Fault) → joined (joined a b) c ≡ joined a (joined b c)
joined_assoc (Err x) b c = refl
joined_assoc (Ok ds) (Err x) c = refl
joined_assoc (Ok ds) (Ok es) (Err x) = refl
joined_assoc (Ok ds) (Ok es) (Ok fs) = ap (λ (l : List Due). Ok l) (append_assoc ds es fs)

pub joined_none : (a : Result (List Due) Fault) → joined (Ok []) a ≡ a
joined_none (Err x) = refl
joined_none (Ok ds) = refl

-- a plan is its first node, and the plans below it
pub plan_is : (sorts : Sorts) (trees : List Tree) (p : NumberedPlan) →
    plan_over sorts trees p ≡ plain.At (node_over sorts trees (head p)) (plans_over sorts trees (below p))
plan_is sorts trees (At n ps) = refl

-- plans by their list
pub listed : (ps : NumberedPlans) → plans_before (list_of ps) Over ≡ ps
listed Over = refl
listed (More p ps) = ap (More p) (listed ps)

pub counted : (sorts : Sorts) (trees : List Tree) (ps : NumberedPlans) → count (plans_over sorts trees ps) ≡ length (list_of ps)
counted sorts trees Over = refl
counted sorts trees (More p ps) = ap suc (counted sorts trees ps)

-- the goals of a node are asked over the facts of its state
pub due_asked : (k : ℕ) (st : State) (n : Node) (gs : List Assertion) → due k st n gs ≡ asked k st.facts (is_end n && st.is_final) gs
due_asked k st n [] = refl
due_asked k st n (g ∷ gs) = refl

-- a node that opens nothing
pub closed_fails : (k : ℕ) (st : State) (n : Node) (ps : plain.Plans) → opened_by k st n ≡ None →
    expand k st (plain.At n ps) ≡ Err (Wrong k (rule_of n))
closed_fails k st n ps e =
    ap (λ (o : Option node.Opened). opened o (Wrong k (rule_of n))
    (λ (q : node.Opened). if count ps == length q.states then joined (Ok (due k st n q.goals)) (expand_all (Wrong k (rule_of n))
    (suc k) q.states ps)
    else Err (Wrong k (rule_of n)))) e

-- a node that opens states
pub opened_expands : (k : ℕ) (st : State) (n : Node) (ps : plain.Plans) (q : node.Opened) → opened_by k st n ≡ Some q →
    expand k st (plain.At n ps)
    ≡ (if count ps == length q.states then joined (Ok (due k st n q.goals)) (expand_all (Wrong k (rule_of n)) (suc k) q.states ps)
    else Err (Wrong k (rule_of n)))
opened_expands k st n ps q e =
    ap (λ (o : Option node.Opened). opened o (Wrong k (rule_of n))
    (λ (q : node.Opened). if count ps == length q.states then joined (Ok (due k st n q.goals)) (expand_all (Wrong k (rule_of n))
    (suc k) q.states ps)
    else Err (Wrong k (rule_of n)))) e

-- with a plan for each
pub fitting_expands : (k : ℕ) (st : State) (n : Node) (ps : plain.Plans) (q : node.Opened) → opened_by k st n ≡ Some q →
    count ps ≡ length q.states →
    expand k st (plain.At n ps) ≡ joined (Ok (due k st n q.goals)) (expand_all (Wrong k (rule_of n)) (suc k) q.states ps)
fitting_expands k st n ps q e h =
    opened_expands k st n ps q e
    ∙ ap (λ (b : Bool). if b then joined (Ok (due k st n q.goals)) (expand_all (Wrong k (rule_of n)) (suc k) q.states ps)
    else Err (Wrong k (rule_of n))) (eq-eqb (count ps) (length q.states) h)

-- a node that opens states fails without a plan for each
pub unfitting_fails : (k : ℕ) (st : State) (n : Node) (ps : plain.Plans) (q : node.Opened) → opened_by k st n ≡ Some q →
    (count ps ≡ length q.states → ⊥) → expand k st (plain.At n ps) ≡ Err (Wrong k (rule_of n))
unfitting_fails k st n ps q e h =
    opened_expands k st n ps q e
    ∙ ap (λ (b : Bool). if b then joined (Ok (due k st n q.goals)) (expand_all (Wrong k (rule_of n)) (suc k) q.states ps)
    else Err (Wrong k (rule_of n))) (ne_eqb (count ps) (length q.states) h)

-- the states that follow wait, each with its plan, over the path of their node
module _ (sorts : Sorts) (trees : List Tree) (path : List Formula) (whole : take (length path)
    (forms_in sorts trees path) ≡ forms_in sorts trees path)
    (w : Fault) where
  follow : (ss : List Successor) (cs : List Cursor) (k : ℕ) (rest : List (State × plain.Plan)) → length ss ≡ length cs →
      joined (expand_all w k (map (successor_in sorts trees (forms_in sorts trees path)) ss)
      (plans_over sorts trees (plans_before (map numbered_at cs) Over)))
      (expand_pairs (k + sizes (plans_over sorts trees (plans_before (map numbered_at cs) Over))) rest)
      ≡ expand_pairs k (map (waits_as sorts trees path) (waits_with (length path) ss cs) ++ rest)
  follow [] [] k rest h = joined_none (expand_pairs (k + 0) rest) ∙ (let e : k + 0 ≡ k =
      omega arith in ap (λ (n : ℕ). expand_pairs n rest) e)
  follow [] (c ∷ cs) k rest h = absurd cc
  follow (s ∷ ss) [] k rest h = absurd cc
  follow (s ∷ ss) (c ∷ cs) k rest h =
      let p = plan_over sorts trees (numbered_at c) in
      let ps = plans_over sorts trees (plans_before (map numbered_at cs) Over) in
      let facts = forms_in sorts trees path in
      let own = forms_in sorts trees s.kept.value.list.items ++ forms_in sorts trees s.more.list.items in
      let st = successor_in sorts trees facts s in
      let states = map (successor_in sorts trees facts) ss in
      let later = map (waits_as sorts trees path) (waits_with (length path) ss cs) ++ rest in
      let sum : k + (size p + sizes ps) ≡ (k + size p) + sizes ps = omega arith in
      let same : st ≡ state_in sorts trees (take (length path) facts ++ own) s.state =
      ap (λ (fs : List Assertion). state_in sorts trees (fs ++ own) s.state) (sym whole) in
      let fewer : length ss ≡ length cs = omega arith in
      joined_assoc (expand k st p) (expand_all w (k + size p) states ps) (expand_pairs (k + (size p + sizes ps)) rest)
      ∙ ap (λ (n : ℕ). joined (expand k st p) (joined (expand_all w (k + size p) states ps) (expand_pairs n rest))) sum
      ∙ ap (joined (expand k st p)) (follow ss cs (k + size p) rest fewer)
      ∙ ap (λ (x : State). joined (expand k x p) (expand_pairs (k + size p) later)) same

  pub all_follow : (ss : List Successor) (cs : List Cursor) (ps : NumberedPlans) (k : ℕ) (rest : List (State × plain.Plan)) →
      length ss ≡ length cs →
      map numbered_at cs ≡ list_of ps →
      joined (expand_all w k (map (successor_in sorts trees (forms_in sorts trees path)) ss) (plans_over sorts trees ps))
      (expand_pairs (k + sizes (plans_over sorts trees ps)) rest)
      ≡ expand_pairs k (map (waits_as sorts trees path) (waits_with (length path) ss cs) ++ rest)
  all_follow ss cs ps k rest h e =
      let is : plans_before (map numbered_at cs) Over ≡ ps = ap (λ (l : List NumberedPlan). plans_before l Over) e ∙ listed ps in
      sym (ap (λ (qs : NumberedPlans).
      joined (expand_all w k (map (successor_in sorts trees (forms_in sorts trees path)) ss) (plans_over sorts trees qs))
      (expand_pairs (k + sizes (plans_over sorts trees qs)) rest)) is)
      ∙ follow ss cs k rest h

-- how many nodes wait
pub heavier : (ws xs : List Waiting) → weight (ws ++ xs) ≡ weight ws + weight xs
heavier [] xs = let e : weight xs ≡ 0 + weight xs = omega arith in e
heavier (w ∷ ws) xs = let p = heavier ws xs in omega arith

weigh_list : List NumberedPlan → ℕ
weigh_list [] = 0
weigh_list (p ∷ ps) = size_of p + weigh_list ps

listed_weigh : (ps : NumberedPlans) → weigh_list (list_of ps) ≡ sizes_of ps
unfolding weigh_list
listed_weigh Over = refl
listed_weigh (More p ps) = ap (λ (n : ℕ). size_of p + n) (listed_weigh ps)

waits_weigh : (n : ℕ) (ss : List Successor) (cs : List Cursor) → length ss ≡ length cs →
    weight (waits_with n ss cs) ≡ weigh_list (map numbered_at cs)
unfolding weigh_list
waits_weigh n [] [] h = refl
waits_weigh n [] (c ∷ cs) h = absurd cc
waits_weigh n (s ∷ ss) [] h = absurd cc
waits_weigh n (s ∷ ss) (c ∷ cs) h =
    let fewer : length ss ≡ length cs = omega arith in
    ap (λ (m : ℕ). size_of (numbered_at c) + m) (waits_weigh n ss cs fewer)

pub below_weighs : (n : ℕ) (ss : List Successor) (cs : List Cursor) (p : NumberedPlan) → length ss ≡ length cs →
    map numbered_at cs ≡ list_of (below p) → suc (weight (waits_with n ss cs)) ≡ size_of p
below_weighs n ss cs (At node ps) h e =
    let one : weight (waits_with n ss cs) ≡ sizes_of ps = waits_weigh n ss cs h ∙ ap weigh_list e ∙ listed_weigh ps in
    let sum : suc (weight (waits_with n ss cs)) ≡ 1 + sizes_of ps = omega arith in
    sum
