-- How deep plans branch, by how they end.
use Rattle.sm_expand.proofs.Imports.{◌≡◌, ℕ, zero, suc, ◌+◌, ◌-◌, ◌≤◌, ◌<◌, max, nat_le, nat_lt, if◌then◌else◌, Bool, true, false, List, [], ◌∷◌, ◌++◌, length, map, take, get_or, refl, sym, ap, ◌∙◌, arith, ltb-true, ltb-false, lt-ltb, le-ltb, map_more, Box, Global, copy_of, by_copy, Sorts, NumberedFormula, numbered, assertion_in, Formula, Tree, set_of, is_branching, branches, most_branches, NumberedNode, Fork, Loop, Block, Dead, Ends, NumberedPlan, At, NumberedPlans, Over, More, node_over, plan_over, plans_over, plans_before, simple_node, straight_before, numbered_plan, numbered_last, plan_in, Plan, Simple, Plans, out-Plans}
use Rattle.sm_plan.specs.Nodes as node
use Rattle.sm_expand.specs.declared.plan.Last.TheVariants as last
use Rattle.sm_expand.specs.declared.plan.Simple.TheVariants as simple
use Rattle.sm_expand.proofs.PlanViews.{plan_is, last_fork, last_loop, last_block, last_dead, last_end}

-- a plan that is deeper by one than the deeper of two parts
pub none_deep : (allowed n : ℕ) → n ≡ 0 → false ≡ nat_lt allowed n
none_deep allowed n e = sym (le-ltb allowed n (omega arith))

pub none_allowed : (allowed n a b : ℕ) → allowed ≡ 0 → n ≡ suc (max a b) → true ≡ nat_lt allowed n
none_allowed allowed n a b e is = sym (lt-ltb allowed n (omega arith))

pub first_deep : (allowed n a b : ℕ) → (allowed ≡ 0 → ⊥) → n ≡ suc (max a b) → nat_lt (allowed - 1) a ≡ true → true ≡ nat_lt allowed n
first_deep allowed n a b some is h = let p = ltb-true (allowed - 1) a h in sym (lt-ltb allowed n (omega arith))

pub second_deep : (allowed n a b : ℕ) → (allowed ≡ 0 → ⊥) → n ≡ suc (max a b) → nat_lt (allowed - 1) a ≡ false →
    nat_lt (allowed - 1) b ≡ nat_lt allowed n
second_deep allowed n a b some is h = by (nat_lt (allowed - 1) b) refl
  where
    by : (x : Bool) → nat_lt (allowed - 1) b ≡ x → nat_lt (allowed - 1) b ≡ nat_lt allowed n
    by true e = e ∙ sym (lt-ltb allowed n (let p = ltb-true (allowed - 1) b e in omega arith))
    by false e =
        e ∙ sym (le-ltb allowed n (let p = ltb-false (allowed - 1) b e in let q = ltb-false (allowed - 1) a h in omega arith))

module _ (sorts : Sorts) (trees : List Tree) where
  abbrev depth : NumberedPlan → ℕ
  depth p = branches (plan_over sorts trees p)

  abbrev deepest : NumberedPlans → ℕ
  deepest ps = most_branches (plans_over sorts trees ps)

  -- a simple node doesn't branch
  simple_flat : (s : Simple) → is_branching (node_over sorts trees (simple_node s)) ≡ false
  simple_flat (simple.Step copy) = by (nat_le copy 3)
    where
      by : (b : Bool) → is_branching (if b then node.Step (copy_of copy) else node.Unfit 1) ≡ false
      by true = refl
      by false = refl
  simple_flat (simple.Abs copy n) = by (nat_le copy 3)
    where
      by : (b : Bool) → is_branching (if b then node.Abs (copy_of copy) n else node.Unfit 2) ≡ false
      by true = refl
      by false = refl

  -- the others that have plans below them do
  fork_branches : (copy : ℕ) → is_branching (node_over sorts trees (Fork copy)) ≡ true
  fork_branches copy = by (nat_le copy 3)
    where
      by : (b : Bool) → is_branching (if b then node.Fork (copy_of copy) else node.Unfit 3) ≡ true
      by true = refl
      by false = refl

  loop_branches : (set : ℕ) (keep : NumberedFormula) → is_branching (node_over sorts trees (Loop set keep)) ≡ true
  loop_branches set keep = by (nat_le set 15)
    where
      by : (b : Bool) → is_branching (if b then node.Loop (set_of set) (assertion_in sorts trees keep) else node.Unfit 4) ≡ true
      by true = refl
      by false = refl

  branched : (n : NumberedNode) (ps : NumberedPlans) (m : ℕ) → is_branching (node_over sorts trees n) ≡ true → deepest ps ≡ m →
      depth (At n ps) ≡ suc m
  branched n ps m is e = ap (λ (b : Bool). if b then suc (deepest ps) else deepest ps) is ∙ ap suc e

  straight_flat : (ss : List Simple) (p : NumberedPlan) → depth (straight_before ss p) ≡ depth p
  straight_flat [] p = refl
  straight_flat (s ∷ ss) p =
      let below = deepest (More (straight_before ss p) Over) in
      let none : max (depth (straight_before ss p)) 0 ≡ depth (straight_before ss p) = omega arith in
      ap (λ (b : Bool). if b then suc below else below) (simple_flat s) ∙ none ∙ straight_flat ss p

  -- plans before one more
  pub deepest_before : (ps : List NumberedPlan) (q : NumberedPlan) →
      deepest (plans_before ps (More q Over)) ≡ max (deepest (plans_before ps Over)) (depth q)
  deepest_before [] q = let e : max (depth q) 0 ≡ max 0 (depth q) = omega arith in e
  deepest_before (p ∷ ps) q =
      let rest = deepest_before ps q in
      let e : max (depth p) (deepest (plans_before ps (More q Over))) ≡ max (max (depth p) (deepest (plans_before ps Over))) (depth q) =
      omega arith in
      e

  joined_before : (ps qs : List NumberedPlan) (rest : NumberedPlans) → plans_before (ps ++ qs) rest ≡ plans_before ps (plans_before qs rest)
  joined_before [] qs rest = refl
  joined_before (p ∷ ps) qs rest = ap (More p) (joined_before ps qs rest)

  ended : (p : Plan) (q : NumberedPlan) → numbered_last p.last ≡ q → branches (plan_in sorts trees p) ≡ depth q
  ended p q e = ap depth (plan_is p) ∙ straight_flat p.straight.list.items (numbered_last p.last) ∙ ap depth e

  -- how deep a plan is, by how it ends
  pub fork_depth : (p : Plan) (copy : ℕ) (one other : Box Plan Global) → p.last ≡ last.Fork copy one other →
      branches (plan_in sorts trees p) ≡ suc (max (branches (plan_in sorts trees one.value)) (branches (plan_in sorts trees other.value)))
  fork_depth p copy one other e =
      ended p (At (Fork copy) (More (numbered_plan one.value) (More (numbered_plan other.value) Over))) (ap numbered_last e
      ∙ last_fork copy one other)
      ∙ branched (Fork copy) (More (numbered_plan one.value) (More (numbered_plan other.value) Over))
      (max (depth (numbered_plan one.value)) (depth (numbered_plan other.value))) (fork_branches copy) (omega arith)

  pub block_depth : (p : Plan) (k0 k1 k2 k3 : ℕ) (keep : Formula) (inner after : Box Plan Global) →
      p.last ≡ last.Block k0 k1 k2 k3 keep inner after →
      branches (plan_in sorts trees p) ≡ suc (max (branches (plan_in sorts trees inner.value)) (branches (plan_in sorts trees after.value)))
  block_depth p k0 k1 k2 k3 keep inner after e =
      ended p (At (Block (by_copy k0 k1 k2 k3) (numbered keep)) (More (numbered_plan inner.value) (More (numbered_plan after.value) Over)))
      (ap numbered_last e ∙ last_block k0 k1 k2 k3 keep inner after)
      ∙ branched (Block (by_copy k0 k1 k2 k3) (numbered keep)) (More (numbered_plan inner.value) (More (numbered_plan after.value) Over))
      (max (depth (numbered_plan inner.value)) (depth (numbered_plan after.value))) refl (omega arith)

  pub loop_depth : (p : Plan) (set : ℕ) (keep : Formula) (turns : Plans) (after : Box Plan Global) →
      p.last ≡ last.Loop set keep turns after →
      branches (plan_in sorts trees p)
      ≡ suc (max (deepest (plans_before (map numbered_plan (out-Plans turns).list.items) Over))
      (branches (plan_in sorts trees after.value)))
  loop_depth p set keep turns after e =
      let ps = map numbered_plan (out-Plans turns).list.items in
      ended p (At (Loop set (numbered keep)) (plans_before ps (More (numbered_plan after.value) Over)))
      (ap numbered_last e ∙ last_loop set keep turns after)
      ∙ branched (Loop set (numbered keep)) (plans_before ps (More (numbered_plan after.value) Over))
      (max (deepest (plans_before ps Over)) (depth (numbered_plan after.value))) (loop_branches set (numbered keep))
      (deepest_before ps (numbered_plan after.value))

  pub dead_depth : (p : Plan) → p.last ≡ last.Dead → branches (plan_in sorts trees p) ≡ 0
  dead_depth p e = ended p (At Dead Over) (ap numbered_last e ∙ last_dead)

  pub end_depth : (p : Plan) → p.last ≡ last.End → branches (plan_in sorts trees p) ≡ 0
  end_depth p e = ended p (At Ends Over) (ap numbered_last e ∙ last_end)

  -- several plans, so far
  abbrev so_far : List Plan → ℕ → ℕ
  so_far ps i = deepest (plans_before (map numbered_plan (take i ps)) Over)

  next_deepest : (ps : List Plan) (i : ℕ) (p : Plan) → i < length ps → p ≡ get_or ps i p →
      so_far ps (i + 1) ≡ max (so_far ps i) (branches (plan_in sorts trees p))
  next_deepest ps i p h e =
      let front = map numbered_plan (take i ps) in
      let is : map numbered_plan (take (i + 1) ps) ≡ front ++ numbered_plan p ∷ [] =
      map_more numbered_plan ps i p h ∙ ap (λ (q : Plan). front ++ numbered_plan q ∷ []) (sym e) in
      ap (λ (l : List NumberedPlan). deepest (plans_before l Over)) is
      ∙ ap deepest (joined_before front (numbered_plan p ∷ []) Over) ∙ deepest_before front (numbered_plan p)

  pub next_flat : (allowed : ℕ) (ps : List Plan) (i : ℕ) (p : Plan) → i < length ps → p ≡ get_or ps i p →
      nat_lt allowed (so_far ps i) ≡ false → nat_lt allowed (branches (plan_in sorts trees p)) ≡ false →
      nat_lt allowed (so_far ps (i + 1)) ≡ false
  next_flat allowed ps i p h e before here =
      let a = ltb-false allowed (so_far ps i) before in
      let b = ltb-false allowed (branches (plan_in sorts trees p)) here in
      let c = next_deepest ps i p h e in
      le-ltb allowed (so_far ps (i + 1)) (omega arith)

  one_of_all : (ps : List Plan) (i : ℕ) (d : Plan) → i < length ps →
      branches (plan_in sorts trees (get_or ps i d)) ≤ deepest (plans_before (map numbered_plan ps) Over)
  one_of_all [] i d h = absurd (let no : i < 0 = h in omega arith)
  one_of_all (p ∷ ps) zero d h = let e : depth (numbered_plan p) ≤ max (depth (numbered_plan p))
      (deepest (plans_before (map numbered_plan ps) Over)) = omega arith in e
  one_of_all (p ∷ ps) (suc i) d h =
      let fewer : i < length ps = omega arith in
      let rest = one_of_all ps i d fewer in
      let e : branches (plan_in sorts trees (get_or ps i d)) ≤ max (depth (numbered_plan p))
      (deepest (plans_before (map numbered_plan ps) Over)) = omega arith in
      e

  pub one_deep : (allowed : ℕ) (ps : List Plan) (i : ℕ) (p : Plan) → i < length ps → p ≡ get_or ps i p →
      nat_lt allowed (branches (plan_in sorts trees p)) ≡ true → true ≡ nat_lt allowed (deepest (plans_before (map numbered_plan ps) Over))
  one_deep allowed ps i p h e here =
      let a = ltb-true allowed (branches (plan_in sorts trees p)) here in
      let b = one_of_all ps i p h in
      let c : branches (plan_in sorts trees p) ≡ branches (plan_in sorts trees (get_or ps i p)) =
      ap (λ (q : Plan). branches (plan_in sorts trees q)) e in
      sym (lt-ltb allowed (deepest (plans_before (map numbered_plan ps) Over)) (omega arith))
