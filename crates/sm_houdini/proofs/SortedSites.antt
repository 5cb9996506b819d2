-- What each node of a product's plan keeps is sorted and has no new value and no summary, where the task is sorted.
use Rattle.sm_houdini.proofs.Imports.{ℕ, zero, suc, ◌+◌, Bool, true, false, not, ◌&&◌, ◌||◌, if◌then◌else◌, List, [], ◌∷◌, length, list_any, Code, End, Skip, Assign, If, While, Hole, append, filling, fill, Copy, Parts, sort_of, task_of, Sorts, IsWellSorted, is_copy, Copies, has, no_copies, is_inhabited, subsets, with_copy, Node, IsTaskSorted, AreNumbered, rest_after, loop_body, rest_well, guard_well, body_well, has_hole, has_fork, own_statements, by_first_block, by_second_block, all_copies, members, with_member, without, only_in, Each, block_templates, loop_templates, Choice, kept_by, SketchNode, BlockSite, ends, each_of, turns_then, looped, apart, site_at, sites_of, node_with, plan_with, plans_with, plan_of, where_any, forked, branched, product_if, product_while, filled, product, sketch_of, EachNode, EachBelow}
use Rattle.sm_syntax.specs.claim.Syntax.{Write}
use Rattle.sm_plan.specs.Nodes.{Step, Abs}
use Rattle.sm_moves.specs.Moves.{Move, Done, Steps, Summaries, Forks, Loops, is_shared, move_of, moved_on}
use Rattle.sm_sketch.specs.Sketches.{Plain, LoopSite, Sketch, Draw, Sketches, Over, More}
use Rattle.sm_product.specs.MiniProducts.{drawn, mini_product, statements_left, side_by_side}
use Rattle.sm_houdini.proofs.NamedGoals.{IsSimple, AreSimple, AreAllSimple}
use Rattle.sm_houdini.proofs.SortedTemplates.{IsSimpleForm, AreDeclared, numbered_declared, block_simple, loops_simple, kept_simple}
use Rattle.sm_product.proofs.BranchesLeft.{first_well, second_well}

-- both parts of code are well sorted
append_parts : (sorts : Sorts) (c d : Code) → IsWellSorted sorts (append c d) → IsWellSorted sorts c × IsWellSorted sorts d
append_parts sorts End d w = (tt, w)
append_parts sorts (Skip k) d w = append_parts sorts k d w
append_parts sorts (Assign x e k) d w = let both = append_parts sorts k d w.2 in ((w.0, w.1, both.0), both.1)
append_parts sorts (Write a i e k) d w = let both = append_parts sorts k d w.3 in ((w.0, w.1, w.2, both.0), both.1)
append_parts sorts (If b f g k) d w = let both = append_parts sorts k d w.3 in ((w.0, w.1, w.2, both.0), both.1)
append_parts sorts (While b f k) d w = let both = append_parts sorts k d w.2 in ((w.0, w.1, both.0), both.1)
append_parts sorts (Hole h k) d w = append_parts sorts k d w

-- a node is simple, and so is each template of a site
abbrev IsSiteSimple : Sorts → SketchNode → Type 0
IsSiteSimple sorts (Plain node) = IsSimple sorts node
IsSiteSimple sorts (LoopSite set templates) = Each (IsSimpleForm sorts) templates
IsSiteSimple sorts (BlockSite counts templates) = Each (IsSimpleForm sorts) templates

module _ (sorts : Sorts) (t : Parts) (declared : AreDeclared sorts t.declared) where
  -- the code of each copy is well sorted
  abbrev IsWell : (Copy → Code) → Type 0
  IsWell code = (c : Copy) → IsWellSorted sorts (code c)

  choice_well : (b : Bool) (c d : Code) → IsWellSorted sorts c → IsWellSorted sorts d → IsWellSorted sorts (if b then c else d)
  choice_well true c d w v = w
  choice_well false c d w v = v

  copy_well : (r : Copy → Code) (c : Copy) (code : Code) → IsWell r → IsWellSorted sorts code → IsWell (with_copy r c code)
  copy_well r c code w v d = choice_well (is_copy c d) code (r d) v (w d)

  moved_well : (set : Copies) (r : Copy → Code) → IsWell r → IsWell (moved_on set r)
  moved_well set r w c = choice_well (has set c) (rest_after 1 (r c)) (r c) (rest_well sorts 1 (r c) (w c)) (w c)

  only_well : (set : Copies) (code : Copy → Code) → IsWell code → IsWell (only_in set code)
  only_well set code w c = choice_well (has set c) (code c) End (w c) tt

  -- of each node of a sketch
  abbrev Good : Sketch → Type 0
  Good p = EachNode (IsSiteSimple sorts) p

  ends_good : Good ends
  ends_good = ((tt, tt), tt)

  each_good : (node : Copy → Node) → ((c : Copy) → IsSimple sorts (node c)) → (cs : List Copy) (next : Sketch) → Good next →
      Good (each_of node cs next)
  each_good node here [] next h = h
  each_good node here (c ∷ cs) next h = (here c, (each_good node here cs next h, tt))

  turns_good : (turn : Copies → Sketch) → ((v : Copies) → Good (turn v)) → (vs : List Copies) (next : Sketch) → Good next →
      EachBelow (IsSiteSimple sorts) (turns_then turn vs next)
  turns_good turn each [] next h = (h, tt)
  turns_good turn each (v ∷ vs) next h = (each v, turns_good turn each vs next h)

  looped_good : (set : Copies) (code : Copy → Code) → IsWell code → (turn : Copies → Sketch) (next : Sketch) →
      ((v : Copies) → Good (turn v)) → Good next → Good (looped (loop_templates t set code) set turn next)
  looped_good set code w turn next each h =
      (loops_simple sorts t set code declared (λ (c : Copy). guard_well sorts (code c) (w c)), turns_good turn each (subsets set) next h)

  apart_good : (code : Copy → Code) (counts : Copy → ℕ) (inner next : Sketch) → Good inner → Good next →
      Good (apart (block_templates t code) counts inner next)
  apart_good code counts inner next inside h = (block_simple sorts t code declared, (inside, (h, tt)))

  -- what draws good sketches before good ones
  abbrev GoGood : (Copies → (Copy → Code) → Sketch → Sketch) → Type 0
  GoGood go = (set : Copies) (r : Copy → Code) (next : Sketch) → IsWell r → Good next → Good (go set r next)

  drawn_good : (set : Copies) (r : Copy → Code) (next : Sketch) (go : Copies → (Copy → Code) → Sketch → Sketch) → GoGood go →
      IsWell r → Good next → (m : Move) → Good (drawn t set r next go m)
  drawn_good set r next go goes w h Done = h
  drawn_good set r next go goes w h (Steps c) = (
    (tt, tt),
    (
      goes set (with_copy r c (rest_after 1 (r c))) next (copy_well r c (rest_after 1 (r c)) w (rest_well sorts 1 (r c) (w c))) h,
      tt,
    ),
  )
  drawn_good set r next go goes w h (Summaries left) =
      each_good (λ (c : Copy). Abs c 1) (λ (c : Copy). (tt, tt)) (members left) (go set (moved_on left r) next)
      (goes set (moved_on left r) next (moved_well left r w) h)
  drawn_good set r next go goes w h (Forks c) = (
    (tt, tt),
    (
      goes set (with_copy r c (by_first_block (r c))) next
          (copy_well r c (by_first_block (r c)) w (first_well sorts (r c) (w c))) h,
      (
        goes set (with_copy r c (by_second_block (r c))) next
            (copy_well r c (by_second_block (r c)) w (second_well sorts (r c) (w c))) h,
        tt,
      ),
    ),
  )
  drawn_good set r next go goes w h (Loops left) =
      let body = λ (c : Copy). loop_body (r c) in
      looped_good left r w (λ (v : Copies). go v (only_in v body) ends) (go set (moved_on left r) next)
      (λ (v : Copies). goes v (only_in v body) ends (only_well v body (λ (c : Copy). body_well sorts (r c) (w c))) ends_good)
      (goes set (moved_on left r) next (moved_well left r w) h)

  mini_good : (n : ℕ) → GoGood (mini_product t n)
  mini_good zero set r next w h = h
  mini_good (suc n) set r next w h = drawn_good set r next (mini_product t n) (mini_good n) w h (move_of set r)

  -- what draws good sketches of sets
  abbrev DrawGood : (Copies → Sketch → Sketch) → Type 0
  DrawGood draw = (set : Copies) (next : Sketch) → Good next → Good (draw set next)

  any_good : (set : Copies) (draw : Copies → Sketch → Sketch) (next : Sketch) → DrawGood draw → Good next → Good (where_any set draw next)
  any_good set draw next goes h = by (is_inhabited set)
    where
      by : (b : Bool) → Good (if b then draw set next else next)
      by true = goes set next h
      by false = h

  forked_good : (inner : Copies → Sketch) → ((v : Copies) → Good (inner v)) → (cs : List Copy) (taken : Copies) →
      Good (forked inner cs taken)
  forked_good inner each [] taken = each taken
  forked_good inner each (c ∷ cs) taken =
      ((tt, tt), (forked_good inner each cs (with_member taken c), (forked_good inner each cs taken, tt)))

  branched_good : (first second : Copies → Sketch → Sketch) → DrawGood first → DrawGood second → (set taken : Copies) →
      Good (branched first second set taken)
  branched_good first second one other set taken =
      any_good taken first (where_any (without set taken) second ends) one (any_good (without set taken) second ends other ends_good)

  if_good : (b : Bool) (code : Copy → Code) (first second : Copies → Sketch → Sketch) → DrawGood first → DrawGood second →
      DrawGood (product_if t b code first second)
  if_good false code first second one other set next h =
      each_good (λ (c : Copy). Abs c 1) (λ (c : Copy). (tt, tt)) (members set) next h
  if_good true code first second one other set next h =
      apart_good (only_in set code) (λ (c : Copy). if has set c then 1 else 0)
      (forked (branched first second set) (members set) no_copies) next
      (forked_good (branched first second set) (branched_good first second one other set) (members set) no_copies) h

  while_good : (b : Bool) (code : Copy → Code) → IsWell code → (body : Copies → Sketch → Sketch) → DrawGood body →
      DrawGood (product_while t b code body)
  while_good false code w body inside set next h =
      each_good (λ (c : Copy). Abs c 1) (λ (c : Copy). (tt, tt)) (members set) next h
  while_good true code w body inside set next h =
      looped_good set code w (λ (v : Copies). body v ends) next (λ (v : Copies). inside v ends ends_good) h

  hole_good : (set : Copies) (code : Copy → Code) → IsWell code → (next : Sketch) → Good next → Good (filled t set code next)
  hole_good set code w next h = by (not (is_shared set code) && list_any (λ (c : Copy). has_fork (code c)) (members set))
    where
      by : (b : Bool) → Good (if b
          then apart (block_templates t code) (λ (c : Copy). own_statements (code c)) (side_by_side t set code ends) next
          else side_by_side t set code next)
      by true =
          apart_good code (λ (c : Copy). own_statements (code c)) (side_by_side t set code ends) next
          (mini_good (statements_left code) set code ends w ends_good) h
      by false = mini_good (statements_left code) set code next w h

  -- shared code whose fillings are well sorted
  product_good : (c : Code) → IsWell (λ (p : Copy). fill (t.fillings p) c) → DrawGood (product t c)
  product_good End w set next h = h
  product_good (Skip k) w set next h =
      each_good Step (λ (c : Copy). (tt, tt)) (members set) (product t k set next) (product_good k w set next h)
  product_good (Assign x e k) w set next h =
      each_good Step (λ (c : Copy). (tt, tt)) (members set) (product t k set next)
      (product_good k (λ (p : Copy). (w p).2) set next h)
  product_good (Write a i e k) w set next h =
      each_good Step (λ (c : Copy). (tt, tt)) (members set) (product t k set next)
      (product_good k (λ (p : Copy). (w p).3) set next h)
  product_good (If b c d k) w set next h =
      if_good (has_hole c || has_hole d) (λ (p : Copy). fill (t.fillings p) (If b c d End)) (product t c) (product t d)
      (product_good c (λ (p : Copy). (w p).1)) (product_good d (λ (p : Copy). (w p).2)) set (product t k set next)
      (product_good k (λ (p : Copy). (w p).3) set next h)
  product_good (While b c k) w set next h =
      while_good (has_hole c) (λ (p : Copy). fill (t.fillings p) (While b c End)) (λ (p : Copy). ((w p).0, (w p).1, tt)) (product t c)
      (product_good c (λ (p : Copy). (w p).1)) set (product t k set next) (product_good k (λ (p : Copy). (w p).2) set next h)
  product_good (Hole n k) w set next h =
      let both = λ (p : Copy). append_parts sorts (filling (t.fillings p) n) (fill (t.fillings p) k) (w p) in
      let code = λ (p : Copy). filling (t.fillings p) n in
      hole_good set (only_in set code) (only_well set code (λ (p : Copy). (both p).0)) (product t k set next)
      (product_good k (λ (p : Copy). (both p).1) set next h)

module _ (sorts : Sorts) (choice : Choice) where
  node_kept : (s : ℕ) (node : SketchNode) → IsSiteSimple sorts node → IsSimple sorts (node_with (kept_by choice) s node)
  node_kept s (Plain node) h = h
  node_kept s (LoopSite set templates) h = kept_simple sorts choice s templates h
  node_kept s (BlockSite counts templates) h = kept_simple sorts choice s templates h

  mutual
    plan_simple : (p : Sketch) (s : ℕ) → EachNode (IsSiteSimple sorts) p → AreSimple sorts (plan_with (kept_by choice) s p)
    plan_simple (Draw node ps) s h = (node_kept s node h.0, plans_simple ps (s + length (site_at node)) h.1)

    plans_simple : (ps : Sketches) (s : ℕ) → EachBelow (IsSiteSimple sorts) ps → AreAllSimple sorts (plans_with (kept_by choice) s ps)
    plans_simple Over s h = tt
    plans_simple (More p ps) s h = (plan_simple p s h.0, plans_simple ps (s + length (sites_of p)) h.1)

-- what a product's plan keeps
pub product_simple : (t : Parts) (choice : Choice) → AreNumbered t.declared → IsTaskSorted (sort_of t.declared) (task_of t) →
    AreSimple (sort_of t.declared) (plan_of t choice)
product_simple t choice numbered sorted =
    let sorts = sort_of t.declared in
    plan_simple sorts choice (sketch_of t) 0
    (product_good sorts t (numbered_declared t.declared numbered) t.shared sorted.programs all_copies ends
    (ends_good sorts t (numbered_declared t.declared numbered)))
