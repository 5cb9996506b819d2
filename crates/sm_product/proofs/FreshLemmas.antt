-- The plan of each choice is fresh: no template names a new value of a node.
use Rattle.sm_product.proofs.Imports.{ℕ, zero, suc, ◌+◌, ◌/◌, ℤ, List, [], ◌∷◌, take, drop, length, Sort, Num, Arr, Expression, Var, Read, Neg, Plus, Minus, Times, Code, Cmp, Copy, O, A, B, M, Parts, Tree, Assertion, term_of, Copies, IsFreshAt, IsFresh, AreFresh, size, place, keeps_goals, Each, slots, weaker, block_templates, loop_templates, HoldsOfTemplates, of_block_templates, of_loop_templates, each_take, each_drop, Choice, chosen_at, picked, halved, kept_by, SketchNode, Draw, Sketches, Over, More, site_at, sites_of, node_with, plan_with, plans_with, each_picked, plan_of, sketch_of}
use Rattle.sm_syntax.specs.declared.tree.Cmp.TheVariants as cmp
use Rattle.sm_syntax.specs.claim.Syntax.{Lit}
use Rattle.sm_term.specs.Fresh.{IsBelow, IsFormBelow}
use Rattle.sm_sketch.specs.Sketches.{Sketch}
use Rattle.sm_product.proofs.NodesLemmas.{EachNode, EachBelow, HoldsOfNodes, sketch_nodes}

-- a conjunction of formulas below a number is below it
halved_below : (k n : ℕ) (fs : List Assertion) → Each (IsFormBelow k) fs → IsFormBelow k (halved n fs)
halved_below k zero fs h = tt
halved_below k (suc n) [] h = tt
halved_below k (suc n) (f ∷ []) h = h.0
halved_below k (suc n) (f ∷ g ∷ rest) h =
    let fs = f ∷ g ∷ rest in
    let half = length fs / 2 in (
      halved_below k n (take half fs) (each_take (IsFormBelow k) half fs h),
      halved_below k n (drop half fs) (each_drop (IsFormBelow k) half fs h),
    )

-- a template is below each number
abbrev IsEver : Assertion → Type 0
IsEver f = (k : ℕ) → IsFormBelow k f

term_ever : (e : Expression) (c : Copy) (k : ℕ) → IsBelow k (term_of e (slots c))
term_ever (Lit z) c k = tt
term_ever (Var x) c k = tt
term_ever (Read a i) c k = (tt, term_ever i c k)
term_ever (Neg e) c k = term_ever e c k
term_ever (Plus d e) c k = (term_ever d c k, term_ever e c k)
term_ever (Minus d e) c k = (term_ever d c k, term_ever e c k)
term_ever (Times d e) c k = (term_ever d c k, term_ever e c k)

weaker_ever : (op : Cmp) (t u : Tree) → ((k : ℕ) → IsBelow k t) → ((k : ℕ) → IsBelow k u) → Each IsEver (weaker op t u)
weaker_ever cmp.Eq t u h g = tt
weaker_ever cmp.Ne t u h g = tt
weaker_ever cmp.Lt t u h g = ((λ (k : ℕ). (h k, g k)), tt)
weaker_ever cmp.Le t u h g = ((λ (k : ℕ). (h k, (g k, tt))), tt)
weaker_ever cmp.Gt t u h g = ((λ (k : ℕ). (g k, h k)), tt)
weaker_ever cmp.Ge t u h g = ((λ (k : ℕ). (g k, (h k, tt))), tt)

place_ever : (name : ℕ × Sort) (c : Copy) (k : ℕ) → IsBelow k (place name c)
place_ever (x, Num) c k = tt
place_ever (x, Arr) c k = (tt, tt)

goals_ever : (at : Copy → Tree) → ((c : Copy) (k : ℕ) → IsBelow k (at c)) → Each IsEver (keeps_goals at)
goals_ever at h = (
  (λ (k : ℕ). ((h O k, h A k), (h M k, h A k))),
  (
    (λ (k : ℕ). ((h O k, h B k), (h M k, h B k))),
    (
      (λ (k : ℕ). ((h O k, h A k), ((h A k, h B k), (h M k, h O k)))),
      tt,
    ),
  ),
)

templates_ever : HoldsOfTemplates IsEver
templates_ever = record {
  of_equal = λ (sort : Sort) (x : ℕ) (c d : Copy) (k : ℕ). (tt, tt);
  of_cells = λ (x : ℕ) (c d : Copy) (k : ℕ). ((tt, tt), (tt, tt));
  of_goals = λ (name : ℕ × Sort). goals_ever (place name) (place_ever name);
  of_start = λ (sort : Sort) (x : ℕ) (c : Copy) (k : ℕ). (tt, tt);
  of_start_cell = λ (x : ℕ) (c : Copy) (k : ℕ). ((tt, tt), (tt, tt));
  of_shift = λ (x : ℕ) (c d : Copy) (v : ℤ) (k : ℕ). (tt, (tt, tt));
  of_guard = λ (op : Cmp) (d e : Expression) (c : Copy).
      weaker_ever op (term_of d (slots c)) (term_of e (slots c)) (term_ever d c) (term_ever e c);
}

each_at : (k : ℕ) (fs : List Assertion) → Each IsEver fs → Each (IsFormBelow k) fs
each_at k [] h = tt
each_at k (f ∷ fs) h = (h.0 k, each_at k fs h.1)

kept_below : (choice : Choice) (s k : ℕ) (ts : List Assertion) → Each IsEver ts → IsFormBelow k (kept_by choice s ts)
kept_below choice s k ts h =
    let fs = picked ts (chosen_at choice s) in
    halved_below k (length fs) fs (each_picked (IsFormBelow k) ts (chosen_at choice s) (each_at k ts h))

module _ (choice : Choice) where
  -- a node is fresh under each number
  abbrev IsNodeFresh : SketchNode → Type 0
  IsNodeFresh node = (s k : ℕ) → IsFreshAt k (node_with (kept_by choice) s node)

  nodes_fresh : (t : Parts) → HoldsOfNodes t IsNodeFresh
  nodes_fresh t = record {
    of_step = λ (c : Copy) (s k : ℕ). tt;
    of_summary = λ (c : Copy) (s k : ℕ). tt;
    of_fork = λ (c : Copy) (s k : ℕ). tt;
    of_end = λ (s k : ℕ). tt;
    of_loops = λ (set : Copies) (code : Copy → Code) (s k : ℕ).
        kept_below choice s k (loop_templates t set code) (of_loop_templates IsEver templates_ever t set code);
    of_block = λ (counts : Copy → ℕ) (code : Copy → Code) (s k : ℕ).
        kept_below choice s k (block_templates t code) (of_block_templates IsEver templates_ever t code);
  }

  mutual
    fresh : (p : Sketch) (k s : ℕ) → EachNode IsNodeFresh p → IsFresh k (plan_with (kept_by choice) s p)
    fresh (Draw node ps) k s h = (h.0 s k, all_fresh ps (suc k) (s + length (site_at node)) h.1)

    all_fresh : (ps : Sketches) (k s : ℕ) → EachBelow IsNodeFresh ps → AreFresh k (plans_with (kept_by choice) s ps)
    all_fresh Over k s h = tt
    all_fresh (More p ps) k s h =
        (fresh p k s h.0, all_fresh ps (k + size (plan_with (kept_by choice) s p)) (s + length (sites_of p)) h.1)

-- the plan of a choice is fresh
pub plan_is_fresh : (t : Parts) (choice : Choice) → IsFresh 0 (plan_of t choice)
plan_is_fresh t choice = fresh choice (sketch_of t) 0 0 (sketch_nodes t (IsNodeFresh choice) (nodes_fresh choice t))
