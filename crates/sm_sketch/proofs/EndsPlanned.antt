-- The plan of a sketch that ends in a fork, in loops or in a block, and the plans of several sketches.
use Rattle.sm_sketch.proofs.Imports.{◌≡◌, ℕ, suc, zero, ◌+◌, ◌≤◌, ◌<◌, nat_le, if◌then◌else◌, Bool, List, [], ◌∷◌, ◌++◌, length, map, take, get_or, refl, sym, ap, ◌∙◌, subst, arith, append-nil, length-append, map_more, Box, Vec, Global, Rc, by_copy, Sorts, Assertion, numbered, assertion_in, Formula, Tree, set_of, IsFormReady, AreFormsReady, forms_in, Formulas, NumberedPlan, plan_over, plans_over, plans_before, IsPlanReady, ArePlansReady, last_layer, plan_layer, plans_layer, numbered_plan, numbered_last, plan_in, Plans, roll-Plans, fold-Plans, fold-roll-Plans, plans_are, last_loop, last_block, SketchEnd, Sketches, out-Sketches, plans_from, sites_among, AreSomeReady, AreAllReady, LoopSite, BlockSite, NumberedSketch, Draw, Over, More, sketch_over, sketches_over, sketches_before, AreNodesReady, AreBelowReady, plan_with, plans_with, sites_of, sites_below, numbered_sketch, numbered_end, numbered_sketches, sketch_in}
use Rattle.std.proofs.lemmas.Bool.{le-leb}
use Rattle.sm_plan.specs.Nodes as node
use Rattle.sm_plan.specs.Plans as plan
use Rattle.sm_expand.specs.declared.plan.Last.{Last}
use Rattle.sm_expand.specs.declared.plan.Last.TheVariants as last
use Rattle.sm_expand.specs.NumberedPlans as numbers
use Rattle.sm_expand.specs.declared.plan.Plan.{Plan}
use Rattle.sm_sketch.specs.declared.sketch.SketchEnd.TheVariants as end
use Rattle.sm_sketch.specs.Sketches as tree
use Rattle.sm_sketch.specs.SketchViews.{Sketch}
use Rattle.sm_sketch.proofs.SketchEnds.{sketches_are, end_loop, end_block}

-- plans over numbers of terms
abbrev pub plans_of : Plans → List NumberedPlan
plans_of = fold-Plans NumberedPlan NumberedPlan (List NumberedPlan) last_layer plan_layer plans_layer

-- plans that were put into a list
pub rolled_plans : (l : Vec Plan Global) → plans_of (roll-Plans (record { list = l })) ≡ map numbered_plan l.items
rolled_plans l = fold-roll-Plans NumberedPlan NumberedPlan (List NumberedPlan) last_layer plan_layer plans_layer (record { list = l })

-- loops over such plans
loop_is : (l : Last) (set : ℕ) (f : Formula) (plans : Plans) (after : Box Plan Global) (ps : List Plan) → l ≡ last.Loop set f plans after →
    plans_of plans ≡ map numbered_plan ps →
    numbered_last l ≡ numbers.At (numbers.Loop set (numbered f)) (plans_before (map numbered_plan ps)
    (numbers.More (numbered_plan after.value) numbers.Over))
loop_is l set f plans after ps made are =
    ap numbered_last made ∙ last_loop set f plans after
    ∙ ap (λ (qs : List NumberedPlan). numbers.At (numbers.Loop set (numbered f)) (plans_before qs
    (numbers.More (numbered_plan after.value) numbers.Over))) (sym (plans_are plans) ∙ are)

module _ (sorts : Sorts) (trees : List Tree) (keep : ℕ → List Assertion → Assertion) where
  -- two plans, of which the sites are numbered one after the other
  two_planned : (n k m : ℕ) (a b : tree.Sketch) (p q : plan.Plan) → p ≡ plan_with keep k a → q ≡ plan_with keep m b → k ≡ n →
      m ≡ n + length (sites_of a) →
      plan.More p (plan.More q plan.Over) ≡ plans_with keep n (tree.More a (tree.More b tree.Over))
  two_planned n k m a b p q first second same next =
      let one = first ∙ ap (λ (x : ℕ). plan_with keep x a) same in
      let other = second ∙ ap (λ (x : ℕ). plan_with keep x b) next in
      λ i. plan.More (one i) (plan.More (other i) plan.Over)

  two_sites : (a b : tree.Sketch) →
      length (sites_below (tree.More a (tree.More b tree.Over))) ≡ length (sites_of a) + length (sites_of b)
  two_sites a b =
      length-append (sites_of a) (sites_of b ++ [])
      ∙ ap (λ (l : List (List Assertion)). length (sites_of a) + length l) (append-nil (sites_of b))

  -- blocks
  pub block_planned : (s : SketchEnd) (l : Last) (k0 k1 k2 k3 n k m : ℕ) (ts : Rc Formulas Global) (f : Formula)
      (one other : Box Sketch Global) (inner after : Box Plan Global) → s ≡ end.Block k0 k1 k2 k3 ts one other →
      l ≡ last.Block k0 k1 k2 k3 f inner after →
      assertion_in sorts trees (numbered f) ≡ keep n (forms_in sorts trees ts.value.list.items) → k ≡ n + 1 →
      plan_in sorts trees inner.value ≡ plan_with keep k (sketch_in sorts trees one.value) →
      plan_in sorts trees after.value ≡ plan_with keep m (sketch_in sorts trees other.value) →
      m ≡ k + length (sites_of (sketch_in sorts trees one.value)) →
      plan_over sorts trees (numbered_last l) ≡ plan_with keep n (sketch_over sorts trees (numbered_end s))
  block_planned s l k0 k1 k2 k3 n k m ts f one other inner after is made kept count first second next =
      let later : m ≡ (n + 1) + length (sites_of (sketch_in sorts trees one.value)) = omega arith in
      let below =
      two_planned (n + 1) k m (sketch_in sorts trees one.value) (sketch_in sorts trees other.value) (plan_in sorts trees inner.value)
      (plan_in sorts trees after.value) first second count later in
      ap (λ (x : Last). plan_over sorts trees (numbered_last x)) made ∙ ap (plan_over sorts trees) (last_block k0 k1 k2 k3 f inner after)
      ∙ (λ i. plan.At (node.Block (by_copy k0 k1 k2 k3) (kept i)) (below i))
      ∙ ap (λ (p : NumberedSketch). plan_with keep n (sketch_over sorts trees p))
      (sym (ap numbered_end is ∙ end_block k0 k1 k2 k3 ts one other))

  pub block_sites : (s : SketchEnd) (k0 k1 k2 k3 n k m j : ℕ) (ts : Rc Formulas Global) (one other : Box Sketch Global) →
      s ≡ end.Block k0 k1 k2 k3 ts one other → k ≡ n + 1 → m ≡ k + length (sites_of (sketch_in sorts trees one.value)) →
      j ≡ m + length (sites_of (sketch_in sorts trees other.value)) →
      j ≡ n + length (sites_of (sketch_over sorts trees (numbered_end s)))
  block_sites s k0 k1 k2 k3 n k m j ts one other is count next last =
      let two = two_sites (sketch_in sorts trees one.value) (sketch_in sorts trees other.value) in
      let sum : j ≡ n + suc (length (sites_of (sketch_in sorts trees one.value)) + length (sites_of (sketch_in sorts trees other.value))) =
      omega arith in
      sum ∙ ap (λ (x : ℕ). n + suc x) (sym two)
      ∙ ap (λ (p : NumberedSketch). n + length (sites_of (sketch_over sorts trees p)))
      (sym (ap numbered_end is ∙ end_block k0 k1 k2 k3 ts one other))

  -- turns before what follows
  turns_planned : (ss : List Sketch) (ps : List Plan) (q : Sketch) (p : Plan) (n m : ℕ) →
      map (plan_in sorts trees) ps ≡ plans_from keep n (map (sketch_in sorts trees) ss) →
      plan_in sorts trees p ≡ plan_with keep m (sketch_in sorts trees q) → m ≡ n + sites_among (map (sketch_in sorts trees) ss) →
      plans_over sorts trees (plans_before (map numbered_plan ps) (numbers.More (numbered_plan p) numbers.Over))
      ≡ plans_with keep n (sketches_over sorts trees (sketches_before (map numbered_sketch ss) (More (numbered_sketch q) Over)))
  turns_planned [] [] q p n m made last next =
      let same : m ≡ n = omega arith in
      let one = last ∙ ap (λ (x : ℕ). plan_with keep x (sketch_in sorts trees q)) same in
      λ i. plan.More (one i) plan.Over
  turns_planned [] (x ∷ ps) q p n m made last next = absurd cc
  turns_planned (s ∷ ss) [] q p n m made last next = absurd cc
  turns_planned (s ∷ ss) (x ∷ ps) q p n m made last next =
      let one : plan_in sorts trees x ≡ plan_with keep n (sketch_in sorts trees s) = cc in
      let k = n + length (sites_of (sketch_in sorts trees s)) in
      let more : map (plan_in sorts trees) ps ≡ plans_from keep k (map (sketch_in sorts trees) ss) = cc in
      let later : m ≡ k + sites_among (map (sketch_in sorts trees) ss) = omega arith in
      let rest = turns_planned ss ps q p k m more last later in
      λ i. plan.More (one i) (rest i)

  turns_sites : (ss : List Sketch) (q : Sketch) →
      length (sites_below (sketches_over sorts trees (sketches_before (map numbered_sketch ss) (More (numbered_sketch q) Over))))
      ≡ sites_among (map (sketch_in sorts trees) ss) + length (sites_of (sketch_in sorts trees q))
  turns_sites [] q =
      let last = length (sites_of (sketch_in sorts trees q)) in
      let e : last ≡ 0 + last = omega arith in
      ap (λ (l : List (List Assertion)). length l) (append-nil (sites_of (sketch_in sorts trees q))) ∙ e
  turns_sites (s ∷ ss) q =
      let below = sites_below (sketches_over sorts trees (sketches_before (map numbered_sketch ss) (More (numbered_sketch q) Over))) in
      let here = length (sites_of (sketch_in sorts trees s)) in
      let some = sites_among (map (sketch_in sorts trees) ss) in
      let last = length (sites_of (sketch_in sorts trees q)) in
      let e : here + (some + last) ≡ (here + some) + last = omega arith in
      length-append (sites_of (sketch_in sorts trees s)) below ∙ ap (λ (x : ℕ). here + x) (turns_sites ss q) ∙ e

  -- loops
  loop_node : (set : ℕ) (f g : Assertion) → set ≤ 15 → f ≡ g →
      (if nat_le set 15 then node.Loop (set_of set) f else node.Unfit 4) ≡ node.Loop (set_of set) g
  loop_node set f g few e =
      ap (λ (b : Bool). if b then node.Loop (set_of set) f else node.Unfit 4) (le-leb set 15 few)
      ∙ ap (node.Loop (set_of set)) e

  pub loop_planned : (s : SketchEnd) (l : Last) (set n k m : ℕ) (ts : Rc Formulas Global) (f : Formula) (turns : Sketches)
      (follows : Box Sketch Global) (plans : Plans) (after : Box Plan Global) (ps : List Plan) → s ≡ end.Loop set ts turns follows →
      l ≡ last.Loop set f plans after → plans_of plans ≡ map numbered_plan ps → set ≤ 15 →
      assertion_in sorts trees (numbered f) ≡ keep n (forms_in sorts trees ts.value.list.items) → k ≡ n + 1 →
      map (plan_in sorts trees) ps ≡ plans_from keep k (map (sketch_in sorts trees) (out-Sketches turns).list.items) →
      plan_in sorts trees after.value ≡ plan_with keep m (sketch_in sorts trees follows.value) →
      m ≡ k + sites_among (map (sketch_in sorts trees) (out-Sketches turns).list.items) →
      plan_over sorts trees (numbered_last l) ≡ plan_with keep n (sketch_over sorts trees (numbered_end s))
  loop_planned s l set n k m ts f turns follows plans after ps is made are few kept count each last next =
      let ss = (out-Sketches turns).list.items in
      let below = turns_planned ss ps follows.value after.value k m each last next in
      let head = loop_node set (assertion_in sorts trees (numbered f)) (keep n (forms_in sorts trees ts.value.list.items)) few kept in
      ap (plan_over sorts trees) (loop_is l set f plans after ps made are)
      ∙ (λ i. plan.At (head i) (below i))
      ∙ ap (λ (x : ℕ). plan.At (node.Loop (set_of set) (keep n (forms_in sorts trees ts.value.list.items)))
      (plans_with keep x (sketches_over sorts trees
      (sketches_before (map numbered_sketch ss) (More (numbered_sketch follows.value) Over))))) count
      ∙ ap (λ (p : NumberedSketch). plan_with keep n (sketch_over sorts trees p)) (sym (ap numbered_end is ∙ end_loop set ts turns follows))

  pub loop_sites : (s : SketchEnd) (set n k m j : ℕ) (ts : Rc Formulas Global) (turns : Sketches) (follows : Box Sketch Global) →
      s ≡ end.Loop set ts turns follows → k ≡ n + 1 → m ≡ k + sites_among (map (sketch_in sorts trees) (out-Sketches turns).list.items) →
      j ≡ m + length (sites_of (sketch_in sorts trees follows.value)) →
      j ≡ n + length (sites_of (sketch_over sorts trees (numbered_end s)))
  loop_sites s set n k m j ts turns follows is count next last =
      let ss = (out-Sketches turns).list.items in
      let below = turns_sites ss follows.value in
      let sum : j ≡ n + suc (sites_among (map (sketch_in sorts trees) ss) + length (sites_of (sketch_in sorts trees follows.value))) =
      omega arith in
      sum ∙ ap (λ (x : ℕ). n + suc x) (sym below)
      ∙ ap (λ (p : NumberedSketch). n + length (sites_of (sketch_over sorts trees p)))
      (sym (ap numbered_end is ∙ end_loop set ts turns follows))

  -- several sketches, one more
  sites_more : (xs : List tree.Sketch) (x : tree.Sketch) → sites_among (xs ++ x ∷ []) ≡ sites_among xs + length (sites_of x)
  sites_more [] x = omega arith
  sites_more (y ∷ xs) x =
      let e : length (sites_of y) + (sites_among xs + length (sites_of x)) ≡ (length (sites_of y) + sites_among xs) + length (sites_of x) =
      omega arith in
      ap (λ (n : ℕ). length (sites_of y) + n) (sites_more xs x) ∙ e

  plans_more : (n : ℕ) (xs : List tree.Sketch) (x : tree.Sketch) →
      plans_from keep n (xs ++ x ∷ []) ≡ plans_from keep n xs ++ plan_with keep (n + sites_among xs) x ∷ []
  plans_more n [] x = let e : n ≡ n + 0 = omega arith in ap (λ (k : ℕ). plan_with keep k x ∷ []) e
  plans_more n (y ∷ xs) x =
      let k = n + length (sites_of y) in
      let e : k + sites_among xs ≡ n + (length (sites_of y) + sites_among xs) = omega arith in
      let rest = plans_more k xs x ∙ ap (λ (m : ℕ). plans_from keep k xs ++ plan_with keep m x ∷ []) e in
      ap (λ (l : List plan.Plan). plan_with keep n y ∷ l) rest

  pub next_sites : (ss : List Sketch) (i n m k : ℕ) (s : Sketch) → i < length ss → s ≡ get_or ss i s →
      m ≡ n + sites_among (map (sketch_in sorts trees) (take i ss)) → k ≡ m + length (sites_of (sketch_in sorts trees s)) →
      k ≡ n + sites_among (map (sketch_in sorts trees) (take (i + 1) ss))
  next_sites ss i n m k s h e before is =
      let front = map (sketch_in sorts trees) (take i ss) in
      let more : map (sketch_in sorts trees) (take (i + 1) ss) ≡ front ++ sketch_in sorts trees s ∷ [] =
      map_more (sketch_in sorts trees) ss i s h ∙ ap (λ (x : Sketch). front ++ sketch_in sorts trees x ∷ []) (sym e) in
      let all = ap sites_among more ∙ sites_more front (sketch_in sorts trees s) in
      let sum : k ≡ n + (sites_among front + length (sites_of (sketch_in sorts trees s))) = omega arith in
      sum ∙ ap (λ (x : ℕ). n + x) (sym all)

  pub next_plans : (ss : List Sketch) (i n m : ℕ) (s : Sketch) (before after : List plan.Plan) (p : plan.Plan) → i < length ss →
      s ≡ get_or ss i s → m ≡ n + sites_among (map (sketch_in sorts trees) (take i ss)) →
      before ≡ plans_from keep n (map (sketch_in sorts trees) (take i ss)) → after ≡ before ++ p ∷ [] →
      p ≡ plan_with keep m (sketch_in sorts trees s) → after ≡ plans_from keep n (map (sketch_in sorts trees) (take (i + 1) ss))
  next_plans ss i n m s before after p h e count so_far is made =
      let front = map (sketch_in sorts trees) (take i ss) in
      let more : map (sketch_in sorts trees) (take (i + 1) ss) ≡ front ++ sketch_in sorts trees s ∷ [] =
      map_more (sketch_in sorts trees) ss i s h ∙ ap (λ (x : Sketch). front ++ sketch_in sorts trees x ∷ []) (sym e) in
      let one : p ≡ plan_with keep (n + sites_among front) (sketch_in sorts trees s) =
      made ∙ ap (λ (x : ℕ). plan_with keep x (sketch_in sorts trees s)) count in
      is ∙ (λ j. so_far j ++ one j ∷ []) ∙ sym (plans_more n front (sketch_in sorts trees s)) ∙ ap (plans_from keep n) (sym more)

  -- readiness
  pub some_at : (ss : List Sketch) (i : ℕ) (d : Sketch) → i < length ss → AreSomeReady sorts trees (map numbered_sketch ss) →
      AreNodesReady sorts trees (numbered_sketch (get_or ss i d))
  some_at [] i d h r = absurd (let no : i < 0 = h in omega arith)
  some_at (s ∷ ss) zero d h r = r.0
  some_at (s ∷ ss) (suc i) d h r = let fewer : i < length ss = omega arith in some_at ss i d fewer r.1

  pub all_more : (ps : List Plan) (p : Plan) → AreAllReady sorts trees ps → IsPlanReady sorts trees (numbered_plan p) →
      AreAllReady sorts trees (ps ++ p ∷ [])
  all_more [] p r last = (last, tt)
  all_more (x ∷ ps) p r last = (r.0, all_more ps p r.1 last)

  some_below : (ss : List NumberedSketch) (q : NumberedSketch) → AreBelowReady sorts trees (sketches_before ss (More q Over)) →
      AreSomeReady sorts trees ss × AreNodesReady sorts trees q
  some_below [] q r = (tt, r.0)
  some_below (s ∷ ss) q r = let rest = some_below ss q r.1 in ((r.0, rest.0), rest.1)

  all_below : (ps : List Plan) (q : NumberedPlan) → AreAllReady sorts trees ps → IsPlanReady sorts trees q →
      ArePlansReady sorts trees (plans_before (map numbered_plan ps) (numbers.More q numbers.Over))
  all_below [] q r last = (last, tt)
  all_below (p ∷ ps) q r last = (r.0, all_below ps q r.1 last)

  -- several sketches over the trees of a table
  maps_over : (ss : List Sketch) → map (sketch_over sorts trees) (map numbered_sketch ss) ≡ map (sketch_in sorts trees) ss
  maps_over [] = refl
  maps_over (s ∷ ss) = ap (λ (l : List tree.Sketch). sketch_in sorts trees s ∷ l) (maps_over ss)

  pub all_over : (ps : Sketches) →
      map (sketch_over sorts trees) (numbered_sketches ps) ≡ map (sketch_in sorts trees) (out-Sketches ps).list.items
  all_over ps = ap (map (sketch_over sorts trees)) (sketches_are ps) ∙ maps_over (out-Sketches ps).list.items

  -- the parts of loops and of a block
  loop_nodes : (s : SketchEnd) (set : ℕ) (ts : Rc Formulas Global) (turns : Sketches) (follows : Box Sketch Global) →
      s ≡ end.Loop set ts turns follows → AreNodesReady sorts trees (numbered_end s) →
      AreNodesReady sorts trees (Draw (LoopSite set ts.value.list.items)
      (sketches_before (map numbered_sketch (out-Sketches turns).list.items) (More (numbered_sketch follows.value) Over)))
  loop_nodes s set ts turns follows is r = subst (AreNodesReady sorts trees) (ap numbered_end is ∙ end_loop set ts turns follows) r

  pub loop_few : (s : SketchEnd) (set : ℕ) (ts : Rc Formulas Global) (turns : Sketches) (follows : Box Sketch Global) →
      s ≡ end.Loop set ts turns follows → AreNodesReady sorts trees (numbered_end s) → set ≤ 15
  loop_few s set ts turns follows is r = (loop_nodes s set ts turns follows is r).0.0

  pub loop_forms : (s : SketchEnd) (set : ℕ) (ts : Rc Formulas Global) (turns : Sketches) (follows : Box Sketch Global) →
      s ≡ end.Loop set ts turns follows → AreNodesReady sorts trees (numbered_end s) → AreFormsReady sorts trees ts.value.list.items
  loop_forms s set ts turns follows is r = (loop_nodes s set ts turns follows is r).0.1

  pub loop_turns : (s : SketchEnd) (set : ℕ) (ts : Rc Formulas Global) (turns : Sketches) (follows : Box Sketch Global) →
      s ≡ end.Loop set ts turns follows → AreNodesReady sorts trees (numbered_end s) → AreSomeReady sorts trees (numbered_sketches turns)
  loop_turns s set ts turns follows is r =
      let below = (loop_nodes s set ts turns follows is r).1 in
      subst (AreSomeReady sorts trees) (sym (sketches_are turns))
      (some_below (map numbered_sketch (out-Sketches turns).list.items) (numbered_sketch follows.value) below).0

  pub loop_follows : (s : SketchEnd) (set : ℕ) (ts : Rc Formulas Global) (turns : Sketches) (follows : Box Sketch Global) →
      s ≡ end.Loop set ts turns follows → AreNodesReady sorts trees (numbered_end s) →
      AreNodesReady sorts trees (numbered_sketch follows.value)
  loop_follows s set ts turns follows is r =
      let below = (loop_nodes s set ts turns follows is r).1 in
      (some_below (map numbered_sketch (out-Sketches turns).list.items) (numbered_sketch follows.value) below).1

  pub loop_all_ready : (l : Last) (set : ℕ) (f : Formula) (plans : Plans) (after : Box Plan Global) (ps : List Plan) →
      l ≡ last.Loop set f plans after → plans_of plans ≡ map numbered_plan ps → IsFormReady sorts trees f → AreAllReady sorts trees ps →
      IsPlanReady sorts trees (numbered_plan after.value) → IsPlanReady sorts trees (numbered_last l)
  loop_all_ready l set f plans after ps made are keeps each later =
      subst (IsPlanReady sorts trees) (sym (loop_is l set f plans after ps made are))
      (keeps, all_below ps (numbered_plan after.value) each later)

  block_nodes : (s : SketchEnd) (k0 k1 k2 k3 : ℕ) (ts : Rc Formulas Global) (one other : Box Sketch Global) →
      s ≡ end.Block k0 k1 k2 k3 ts one other → AreNodesReady sorts trees (numbered_end s) →
      AreNodesReady sorts trees (Draw (BlockSite (by_copy k0 k1 k2 k3) ts.value.list.items)
      (More (numbered_sketch one.value) (More (numbered_sketch other.value) Over)))
  block_nodes s k0 k1 k2 k3 ts one other is r =
      subst (AreNodesReady sorts trees) (ap numbered_end is ∙ end_block k0 k1 k2 k3 ts one other) r

  pub block_inner : (s : SketchEnd) (k0 k1 k2 k3 : ℕ) (ts : Rc Formulas Global) (one other : Box Sketch Global) →
      s ≡ end.Block k0 k1 k2 k3 ts one other → AreNodesReady sorts trees (numbered_end s) →
      AreNodesReady sorts trees (numbered_sketch one.value)
  block_inner s k0 k1 k2 k3 ts one other is r = (block_nodes s k0 k1 k2 k3 ts one other is r).1.0

  pub block_after : (s : SketchEnd) (k0 k1 k2 k3 : ℕ) (ts : Rc Formulas Global) (one other : Box Sketch Global) →
      s ≡ end.Block k0 k1 k2 k3 ts one other → AreNodesReady sorts trees (numbered_end s) →
      AreNodesReady sorts trees (numbered_sketch other.value)
  block_after s k0 k1 k2 k3 ts one other is r = (block_nodes s k0 k1 k2 k3 ts one other is r).1.1.0
