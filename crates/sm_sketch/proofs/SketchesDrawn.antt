-- What sketches that are drawn of others stand for, and that they tell their size and are ready.
use Rattle.sm_sketch.proofs.Imports.{◌≡◌, Result, Ok, Err, ℕ, suc, ◌+◌, ◌≤◌, max, false, List, [], ◌∷◌, ◌++◌, map, refl, sym, ap, ◌∙◌, subst, arith, Copy, O, A, B, M, Sorts, Formula, Tree, Copies, has, subsets, set_of, Node, is_branching, forms_in, of_copy_or, node_over, IsKeepReady, Fork, Ends, simple_node, Simple, members, TellsSketch, TellsExtent, total_nodes, most_branches, drawn_where, NumberedSite, Plain, LoopSite, NumberedSketch, Draw, Over, More, sketches_before, site_over, sketch_over, sketches_over, IsSiteReady, AreNodesReady, AreBelowReady, then_draw, each_of, turns_then, looped, sketch_size, sizes_below, sketch_depth, deepest_below, numbered_sketch, numbered_end, sketch_in, IsSketchReady, AreSketchesReady}
use Rattle.std.proofs.Common.{IfOk}
use Rattle.sm_syntax.specs.trees.Copies.{number_of}
use Rattle.sm_plan.specs.Nodes as plan
use Rattle.sm_expand.specs.declared.plan.Simple.TheVariants as simple
use Rattle.sm_sketch.specs.declared.drawing.Way.TheVariants as way
use Rattle.sm_sketch.specs.Errors.{ProductError}
use Rattle.sm_sketch.specs.Sketches as tree
use Rattle.sm_sketch.specs.SketchViews.{Sketch}
use Rattle.sm_sketch.proofs.LargeSketches.{drawn_size, drawn_depth, tells_sketch, each_drawn}
use Rattle.sm_sketch.proofs.SketchEnds.{pushed, bare}

-- the node of the copy with a number of a copy
pub copy_numbered : (rule : ℕ) (node : Copy → Node) (c : Copy) → of_copy_or rule node (number_of c) ≡ node c
copy_numbered rule node O = refl
copy_numbered rule node A = refl
copy_numbered rule node B = refl
copy_numbered rule node M = refl

module _ (sorts : Sorts) (trees : List Tree) where
  -- a fork of a copy
  pub fork_is : (c : Copy) (n : ℕ) → n ≡ number_of c → site_over sorts trees (Plain (Fork n)) ≡ tree.Plain (plan.Fork c)
  fork_is c n e = ap (λ (m : ℕ). tree.Plain (of_copy_or 3 plan.Fork m)) e ∙ ap tree.Plain (copy_numbered 3 plan.Fork c)

  -- a sketch is ready where it tells its size and its templates are
  ready_as : (t : Sketch) (p : NumberedSketch) → numbered_sketch t ≡ p → t.extent.nodes ≡ sketch_size (sketch_over sorts trees p) →
      t.extent.branches ≡ sketch_depth (sketch_over sorts trees p) → AreNodesReady sorts trees p → IsSketchReady sorts trees t
  ready_as t p is nodes branches formulas = record {
    nodes = nodes ∙ ap (λ (q : NumberedSketch). sketch_size (sketch_over sorts trees q)) (sym is);
    branches = branches ∙ ap (λ (q : NumberedSketch). sketch_depth (sketch_over sorts trees q)) (sym is);
    formulas = subst (AreNodesReady sorts trees) (sym is) formulas;
  }

  -- a simple node before a sketch
  simple_ready : (s : Simple) → IsKeepReady sorts trees (simple_node s)
  simple_ready (simple.Step copy) = tt
  simple_ready (simple.Abs copy n) = tt

  put_over : (s : Simple) (node : Node) (next : Sketch) → node_over sorts trees (simple_node s) ≡ node →
      sketch_over sorts trees (Draw (Plain (simple_node s)) (More (numbered_sketch next) Over))
      ≡ then_draw node (sketch_in sorts trees next)
  put_over s node next is = ap (λ (n : Node). then_draw n (sketch_in sorts trees next)) is

  pub put_drawn : (t next : Sketch) (s : Simple) (node : Node) → t.straight.list.items ≡ next.straight.list.items ++ s ∷ [] →
      t.last ≡ next.last → node_over sorts trees (simple_node s) ≡ node →
      sketch_in sorts trees t ≡ then_draw node (sketch_in sorts trees next)
  put_drawn t next s node items last is = ap (sketch_over sorts trees) (pushed t next s items last) ∙ put_over s node next is

  pub put_ready : (t next : Sketch) (s : Simple) (node : Node) → t.straight.list.items ≡ next.straight.list.items ++ s ∷ [] →
      t.last ≡ next.last → node_over sorts trees (simple_node s) ≡ node → is_branching node ≡ false →
      t.extent.nodes ≡ next.extent.nodes + 1 → t.extent.branches ≡ next.extent.branches → IsSketchReady sorts trees next →
      IsSketchReady sorts trees t
  put_ready t next s node items last is flat nodes branches r =
      let p = sketch_in sorts trees next in
      ready_as t (Draw (Plain (simple_node s)) (More (numbered_sketch next) Over)) (pushed t next s items last)
      (nodes ∙ ap (λ (n : ℕ). n + 1) r.nodes ∙ sym (drawn_size node p) ∙ ap sketch_size (sym (put_over s node next is)))
      (branches ∙ r.branches ∙ sym (drawn_depth node p flat) ∙ ap sketch_depth (sym (put_over s node next is)))
      (simple_ready s, (r.formulas, tt))

  pub ends_ready : (t : Sketch) → t.straight.list.items ≡ [] → numbered_end t.last ≡ Draw (Plain Ends) Over → t.extent.nodes ≡ 1 →
      t.extent.branches ≡ 0 → IsSketchReady sorts trees t
  ends_ready t none is nodes branches =
      ready_as t (Draw (Plain Ends) Over) (bare t (Draw (Plain Ends) Over) none is) nodes branches (tt, tt)

  -- a branching node before two sketches
  abbrev two : NumberedSite → Sketch → Sketch → NumberedSketch
  two site p q = Draw site (More (numbered_sketch p) (More (numbered_sketch q) Over))

  -- turns before what follows
  turns_over : (ss : List Sketch) (q : NumberedSketch) (turn : Copies → tree.Sketch) (vs : List Copies) →
      map (sketch_in sorts trees) ss ≡ map turn vs →
      sketches_over sorts trees (sketches_before (map numbered_sketch ss) (More q Over)) ≡ turns_then turn vs (sketch_over sorts trees q)
  turns_over [] q turn [] e = refl
  turns_over [] q turn (v ∷ vs) e = absurd cc
  turns_over (s ∷ ss) q turn [] e = absurd cc
  turns_over (s ∷ ss) q turn (v ∷ vs) e =
      let one : sketch_in sorts trees s ≡ turn v = cc in
      let rest : map (sketch_in sorts trees) ss ≡ map turn vs = cc in
      let more = turns_over ss q turn vs rest in
      λ i. tree.More (one i) (more i)

  turns_size : (ss : List Sketch) (q : NumberedSketch) → AreSketchesReady sorts trees ss →
      sizes_below (sketches_over sorts trees (sketches_before (map numbered_sketch ss) (More q Over)))
      ≡ total_nodes ss + sketch_size (sketch_over sorts trees q)
  turns_size [] q r = omega arith
  turns_size (s ∷ ss) q r =
      let one : s.extent.nodes ≡ sketch_size (sketch_over sorts trees (numbered_sketch s)) = r.0.nodes in
      let rest = turns_size ss q r.1 in
      let size = sketch_size (sketch_over sorts trees q) in
      let e : s.extent.nodes + (total_nodes ss + size) ≡ (s.extent.nodes + total_nodes ss) + size = omega arith in
      (λ i. sym one i + rest i) ∙ e

  turns_depth : (ss : List Sketch) (q : NumberedSketch) → AreSketchesReady sorts trees ss →
      deepest_below (sketches_over sorts trees (sketches_before (map numbered_sketch ss) (More q Over)))
      ≡ max (most_branches ss) (sketch_depth (sketch_over sorts trees q))
  turns_depth [] q r = let d = sketch_depth (sketch_over sorts trees q) in let e : max d 0 ≡ max 0 d = omega arith in e
  turns_depth (s ∷ ss) q r =
      let one : s.extent.branches ≡ sketch_depth (sketch_over sorts trees (numbered_sketch s)) = r.0.branches in
      let rest = turns_depth ss q r.1 in
      let b = s.extent.branches in
      let m = most_branches ss in
      let d = sketch_depth (sketch_over sorts trees q) in
      let e : max b (max m d) ≡ max (max b m) d = omega arith in
      (λ i. max (sym one i) (rest i)) ∙ e

  turns_ready : (ss : List Sketch) (q : NumberedSketch) → AreSketchesReady sorts trees ss → AreNodesReady sorts trees q →
      AreBelowReady sorts trees (sketches_before (map numbered_sketch ss) (More q Over))
  turns_ready [] q r last = (last, tt)
  turns_ready (s ∷ ss) q r last = (r.0.formulas, turns_ready ss q r.1 last)

  -- loops
  abbrev loops : ℕ → List Formula → List Sketch → Sketch → NumberedSketch
  loops set fs ss after = Draw (LoopSite set fs) (sketches_before (map numbered_sketch ss) (More (numbered_sketch after) Over))

  loops_over : (set : ℕ) (fs : List Formula) (ss : List Sketch) (after : Sketch) (turn : Copies → tree.Sketch) →
      map (sketch_in sorts trees) ss ≡ map turn (subsets (set_of set)) →
      sketch_over sorts trees (loops set fs ss after) ≡ looped (forms_in sorts trees fs) (set_of set) turn (sketch_in sorts trees after)
  loops_over set fs ss after turn e =
      ap (tree.Draw (tree.LoopSite (set_of set) (forms_in sorts trees fs)))
      (turns_over ss (numbered_sketch after) turn (subsets (set_of set)) e)

  loops_size : (set : ℕ) (fs : List Formula) (ss : List Sketch) (after : Sketch) → AreSketchesReady sorts trees ss →
      IsSketchReady sorts trees after →
      total_nodes ss + after.extent.nodes + 1 ≡ sketch_size (sketch_over sorts trees (loops set fs ss after))
  loops_size set fs ss after turns last =
      let size = sketch_size (sketch_in sorts trees after) in
      let e : total_nodes ss + size + 1 ≡ suc (total_nodes ss + size) = omega arith in
      (λ i. total_nodes ss + last.nodes i + 1) ∙ e ∙ ap suc (sym (turns_size ss (numbered_sketch after) turns))

  loops_depth : (set : ℕ) (fs : List Formula) (ss : List Sketch) (after : Sketch) → AreSketchesReady sorts trees ss →
      IsSketchReady sorts trees after →
      max (most_branches ss) after.extent.branches + 1 ≡ sketch_depth (sketch_over sorts trees (loops set fs ss after))
  loops_depth set fs ss after turns last =
      let d = sketch_depth (sketch_in sorts trees after) in
      let e : max (most_branches ss) d + 1 ≡ suc (max (most_branches ss) d) = omega arith in
      (λ i. max (most_branches ss) (last.branches i) + 1) ∙ e ∙ ap suc (sym (turns_depth ss (numbered_sketch after) turns))

  pub loops_drawn : (t : Sketch) (set : ℕ) (fs : List Formula) (ss : List Sketch) (after : Sketch) (turn : Copies → tree.Sketch) →
      t.straight.list.items ≡ [] → numbered_end t.last ≡ loops set fs ss after →
      map (sketch_in sorts trees) ss ≡ map turn (subsets (set_of set)) →
      sketch_in sorts trees t ≡ looped (forms_in sorts trees fs) (set_of set) turn (sketch_in sorts trees after)
  loops_drawn t set fs ss after turn none is e =
      ap (sketch_over sorts trees) (bare t (loops set fs ss after) none is) ∙ loops_over set fs ss after turn e

  pub loops_ready : (t : Sketch) (set : ℕ) (fs : List Formula) (ss : List Sketch) (after : Sketch) → t.straight.list.items ≡ [] →
      numbered_end t.last ≡ loops set fs ss after → t.extent.nodes ≡ total_nodes ss + after.extent.nodes + 1 →
      t.extent.branches ≡ max (most_branches ss) after.extent.branches + 1 → IsSiteReady sorts trees (LoopSite set fs) →
      AreSketchesReady sorts trees ss → IsSketchReady sorts trees after → IsSketchReady sorts trees t
  loops_ready t set fs ss after none is nodes branches ready turns last =
      ready_as t (loops set fs ss after) (bare t (loops set fs ss after) none is) (nodes ∙ loops_size set fs ss after turns last)
      (branches ∙ loops_depth set fs ss after turns last) (ready, turns_ready ss (numbered_sketch after) turns last.formulas)

  pub loops_err : (e : ProductError) (set : ℕ) (fs : List Formula) (ss : List Sketch) (after : Sketch) (turn : Copies → tree.Sketch)
      (n b : ℕ) → map (sketch_in sorts trees) ss ≡ map turn (subsets (set_of set)) → n ≤ total_nodes ss + after.extent.nodes + 1 →
      b ≤ max (most_branches ss) after.extent.branches + 1 → AreSketchesReady sorts trees ss → IsSketchReady sorts trees after →
      TellsExtent e n b → TellsSketch e (looped (forms_in sorts trees fs) (set_of set) turn (sketch_in sorts trees after))
  loops_err e set fs ss after turn n b same few flat turns last h =
      let over = sketch_over sorts trees (loops set fs ss after) in
      subst (TellsSketch e) (loops_over set fs ss after turn same)
      (tells_sketch e n b over (subst (λ (m : ℕ). n ≤ m) (loops_size set fs ss after turns last) few)
      (subst (λ (m : ℕ). b ≤ m) (loops_depth set fs ss after turns last) flat) h)

-- nodes of a set, of which that of the first copy comes last
pub each_ok : (sorts : Sorts) (trees : List Tree) (set : Copies) (node : Copy → Node) (p q r s : tree.Sketch) →
    q ≡ drawn_where (has set M) (node M) p → r ≡ drawn_where (has set B) (node B) q → s ≡ drawn_where (has set A) (node A) r →
    (done : Result Sketch ProductError) →
    IfOk done (λ (t : Sketch). sketch_in sorts trees t ≡ drawn_where (has set O) (node O) s) →
    IfOk done (λ (t : Sketch). sketch_in sorts trees t ≡ each_of node (members set) p)
each_ok sorts trees set node p q r s four three two (Ok t) one = each_drawn set node p q r s (sketch_in sorts trees t) four three two one
each_ok sorts trees set node p q r s four three two (Err e) one = tt
