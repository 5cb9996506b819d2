-- Where a plan has obligations, each of its nodes has, and the formula kept at each site is within its limits.
use Rattle.sm_product.proofs.Imports.{◌≡◌, ℕ, suc, ◌+◌, ◌==◌, Bool, true, false, not, ◌&&◌, ◌||◌, if◌then◌else◌, Some, List, [], ◌∷◌, ◌++◌, length, refl, subst, arith, and_parts, Copy, Parts, task_of, Assertion, each, has, is_inhabited, is_kept, is_shallow, Opened, opened_by, where_true, rule_of, Fault, Wrong, Deep, due, joined, opened, expand, expand_all, count, size, branches, obligations, State, start_state, is_long, is_loop, Choice, kept_by, SketchNode, Plain, LoopSite, BlockSite, Draw, Sketches, Over, More, site_at, sites_of, sites_below, node_with, plan_with, plans_with, AreKept, ProductExpands, plan_of, sketch_of}
use Rattle.std.proofs.Common.{Ok, Err}
use Rattle.sm_plan.specs.Plans.{Due}
use Rattle.sm_sketch.specs.Sketches.{Sketch}
use Rattle.sm_product.proofs.ProductLemmas.{plan_expands}
use Rattle.sm_plan.proofs.PlanSound.{opened_is, passed, joined_is}

where_back : (b : Bool) (q p : Opened) → where_true b q ≡ Some p → b ≡ true
where_back true q p e = refl
where_back false q p e = absurd cc

-- a node that opens keeps a formula within its limits
node_back : (keep : ℕ → List Assertion → Assertion) (k s : ℕ) (st : State) (node : SketchNode) (q : Opened) →
    opened_by k st (node_with keep s node) ≡ Some q → AreKept keep s (site_at node)
node_back keep k s st (Plain node) q e = tt
node_back keep k s st (LoopSite set templates) q e =
    let loops = each (λ (c : Copy). not (has set c) || is_loop (st.rest c)) in
    let all = where_back (is_inhabited set && (loops && is_kept (keep s templates))) _ q e in
    ((and_parts loops (is_kept (keep s templates)) (and_parts (is_inhabited set) (loops && is_kept (keep s templates)) all).1).1, tt)
node_back keep k s st (BlockSite counts templates) q e =
    let long = each (λ (c : Copy). is_long (counts c) (st.rest c)) in
    ((and_parts long (is_kept (keep s templates)) (where_back (long && is_kept (keep s templates)) _ q e)).1, tt)

kept_both : (keep : ℕ → List Assertion → Assertion) (s n : ℕ) (xs ys : List (List Assertion)) → n ≡ s + length xs → AreKept keep s xs →
    AreKept keep n ys → AreKept keep s (xs ++ ys)
kept_both keep s n [] ys e h g = subst (λ (m : ℕ). AreKept keep m ys) (omega (arith, e)) g
kept_both keep s n (ts ∷ xs) ys e h g = (h.0, kept_both keep (suc s) n xs ys (omega (arith, e)) h.1 g)

mutual
  kept_back : (p : Sketch) (keep : ℕ → List Assertion → Assertion) (k s : ℕ) (st : State) (ds : List Due) →
      expand k st (plan_with keep s p) ≡ Ok ds → AreKept keep s (sites_of p)
  kept_back (Draw node ps) keep k s st ds e =
      let n = s + length (site_at node) in
      let below = plans_with keep n ps in
      let w = Wrong k (rule_of (node_with keep s node)) in
      let o = opened_is (opened_by k st (node_with keep s node)) w
      (λ (q : Opened). if count below == length q.states
      then joined (Ok (due k st (node_with keep s node) q.goals)) (expand_all w (suc k) q.states below) else Err w) ds e in
      let parts = joined_is (Ok (due k st (node_with keep s node) o.0.goals)) (expand_all w (suc k) o.0.states below) ds
      (passed (count below == length o.0.states) _ w ds o.2) in
      kept_both keep s n (site_at node) (sites_below ps) refl (node_back keep k s st node o.0 o.1)
      (all_kept_back ps keep w (suc k) n o.0.states parts.1 parts.3)

  all_kept_back : (ps : Sketches) (keep : ℕ → List Assertion → Assertion) (w : Fault) (k s : ℕ) (states : List State) (ds : List Due) →
      expand_all w k states (plans_with keep s ps) ≡ Ok ds → AreKept keep s (sites_below ps)
  all_kept_back Over keep w k s [] ds e = tt
  all_kept_back Over keep w k s (st ∷ states) ds e = tt
  all_kept_back (More p ps) keep w k s [] ds e = absurd cc
  all_kept_back (More p ps) keep w k s (st ∷ states) ds e =
      let n = s + length (sites_of p) in
      let parts = joined_is (expand k st (plan_with keep s p))
      (expand_all w (k + size (plan_with keep s p)) states (plans_with keep n ps)) ds e in
      kept_both keep s n (sites_of p) (sites_below ps) refl (kept_back p keep k s st parts.0 parts.2)
      (all_kept_back ps keep w (k + size (plan_with keep s p)) n states parts.1 parts.3)

-- a plan that has obligations is shallow, and its kept formulas are within their limits
pub obligations_back : (t : Parts) (choice : Choice) (ds : List Due) → obligations (task_of t) (plan_of t choice) ≡ Ok ds →
    (is_shallow (branches (plan_of t choice)) ≡ true) × AreKept (kept_by choice) 0 (sites_of (sketch_of t))
obligations_back t choice ds e = (
  first (is_shallow (branches (plan_of t choice))) e,
  kept_back (sketch_of t) (kept_by choice) 0 0 (start_state (task_of t)) ds
      (passed (is_shallow (branches (plan_of t choice))) (expand 0 (start_state (task_of t)) (plan_of t choice)) Deep ds e),
)
  where
    first : (b : Bool) → (if b then expand 0 (start_state (task_of t)) (plan_of t choice) else Err Deep) ≡ Ok ds → b ≡ true
    first true h = refl
    first false h = absurd cc

-- the plan of a choice has obligations exactly there, where no filling has a hole
pub expands_exactly : ProductExpands
expands_exactly t choice none = (
  (λ (h : (ds : List Due) × (obligations (task_of t) (plan_of t choice) ≡ Ok ds)). obligations_back t choice h.0 h.1),
  (λ (h : (is_shallow (branches (plan_of t choice)) ≡ true) × AreKept (kept_by choice) 0 (sites_of (sketch_of t))).
      plan_expands t choice none h.0 h.1),
)
