-- A task whose sketch is too large isn't within the limits.
use Rattle.sm_product.proofs.Imports.{◌≡◌, ℕ, suc, ◌+◌, ◌<◌, max, nat_le, Bool, false, ◌&&◌, if◌then◌else◌, List, length, inl, inr, refl, sym, ap, subst, arith, lt-ltb, lt-leb, Parts, task_of, Assertion, is_branching, Fault, size, sizes, branches, most_branches, obligations, TellsSketch, ProductError, kept_by, SketchNode, Plain, LoopSite, BlockSite, Draw, Sketches, Over, More, site_at, sites_of, node_with, plan_with, plans_with, is_branching_node, sketch_size, sizes_below, sketch_depth, deepest_below, IsTooLarge, TellsTask, plan_of, full_choice, sketch_of, goals_in, facts_in, is_small}
use Rattle.std.proofs.Common.{Result, Ok, Err, IfErr}
use Rattle.sm_plan.specs.Plans.{Due}
use Rattle.sm_expand.proofs.WholeLemmas.{too_deep}
use Rattle.sm_sketch.specs.declared.error.ProductError.TheVariants as error
use Rattle.sm_sketch.specs.Sketches.{Sketch}
use Rattle.sm_product.specs.Sizes.{is_within}

module _ (keep : ℕ → List Assertion → Assertion) where
  -- a plan of a sketch has its nodes
  mutual
    pub plan_size : (s : ℕ) (p : Sketch) → size (plan_with keep s p) ≡ sketch_size p
    plan_size s (Draw node ps) = ap suc (plan_sizes (s + length (site_at node)) ps)

    plan_sizes : (s : ℕ) (ps : Sketches) → sizes (plans_with keep s ps) ≡ sizes_below ps
    plan_sizes s Over = refl
    plan_sizes s (More p ps) = λ i. plan_size s p i + plan_sizes (s + length (sites_of p)) ps i

  same_branching : (s : ℕ) (node : SketchNode) → is_branching (node_with keep s node) ≡ is_branching_node node
  same_branching s (Plain node) = refl
  same_branching s (LoopSite set ts) = refl
  same_branching s (BlockSite counts ts) = refl

  -- a plan of a sketch branches as deep as the sketch
  mutual
    pub plan_depth : (s : ℕ) (p : Sketch) → branches (plan_with keep s p) ≡ sketch_depth p
    plan_depth s (Draw node ps) =
        let below = plans_depth (s + length (site_at node)) ps in
        λ i. if same_branching s node i then suc (below i) else below i

    plans_depth : (s : ℕ) (ps : Sketches) → most_branches (plans_with keep s ps) ≡ deepest_below ps
    plans_depth s Over = refl
    plans_depth s (More p ps) = λ i. max (plan_depth s p i) (plans_depth (s + length (sites_of p)) ps i)

-- too many nodes
many_nodes : (n : ℕ) (r : Result (List Due) Fault) → 200000 < n → is_within n r ≡ false
unfolding is_within
many_nodes n (Err w) h = refl
many_nodes n (Ok ds) h =
    let many : 200000 < n + goals_in ds = omega (arith, h) in
    ap (λ (b : Bool). b && nat_le (facts_in ds) 10000000) (lt-leb (n + goals_in ds) 200000 many)

-- no obligations
none_within : (n : ℕ) (w : Fault) (r : Result (List Due) Fault) → r ≡ Err w → is_within n r ≡ false
unfolding is_within
none_within n w r e = ap (is_within n) e

-- a task whose sketch is too large is too large
pub large_task : (t : Parts) → IsTooLarge (sketch_of t) → is_small t ≡ false
large_task t (inl h) =
    let p = plan_of t (full_choice t) in
    many_nodes (size p) (obligations (task_of t) p)
    (subst (λ (n : ℕ). 200000 < n) (sym (plan_size (kept_by (full_choice t)) 0 (sketch_of t))) h)
large_task t (inr h) =
    let p = plan_of t (full_choice t) in
    none_within (size p) _ (obligations (task_of t) p)
    (too_deep (task_of t) p
    (lt-ltb 1000 (branches p) (subst (λ (n : ℕ). 1000 < n) (sym (plan_depth (kept_by (full_choice t)) 0 (sketch_of t))) h)))

-- so an error that tells of the sketch tells of the task
tells_task : (e : ProductError) (t : Parts) → TellsSketch e (sketch_of t) → TellsTask e t
tells_task error.TooMany t h = large_task t h
tells_task error.Memory t h = tt

pub err_tells_task : {T : Type 0} (r : Result T ProductError) (e : ProductError) (t : Parts) → r ≡ Err e → TellsSketch e (sketch_of t) →
    IfErr r (λ (x : ProductError). TellsTask x t)
err_tells_task {T} r e t is h =
    subst (λ (q : Result T ProductError). IfErr q (λ (x : ProductError). TellsTask x t)) (sym is) (tells_task e t h)
