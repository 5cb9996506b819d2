-- Each node of a product is a step, a summary, a fork or an end, or the site of loops or of a block.
use Rattle.sm_product.proofs.Imports.{ℕ, zero, suc, Bool, true, false, not, ◌&&◌, ◌||◌, if◌then◌else◌, List, [], ◌∷◌, list_any, Code, End, Skip, Assign, Write, If, While, Hole, filling, fill, Copy, Parts, Assertion, Copies, has, no_copies, is_inhabited, subsets, with_copy, Node, Step, Abs, Fork, Ends, rest_after, has_hole, has_fork, own_statements, by_first_block, by_second_block, all_copies, members, with_member, without, only_in, Done, Steps, Summaries, Forks, Loops, is_shared, move_of, moved_on, Each, each_append, block_templates, loop_templates, SketchNode, Plain, LoopSite, BlockSite, Draw, Sketches, Over, More, ends, each_of, turns_then, looped, apart, site_at, sites_of, sites_below, drawn, mini_product, statements_left, side_by_side, where_any, forked, branched, product_if, product_while, filled, product, sketch_of}
use Rattle.sm_moves.specs.Moves.{Move}
use Rattle.sm_sketch.specs.Sketches.{Sketch}
use Rattle.sm_product.proofs.FitsLemmas.{bodies_left}

abbrev mutual
  -- each node of a sketch
  pub EachNode : (SketchNode → Type 0) → Sketch → Type 0
  EachNode P (Draw node ps) = P node × EachBelow P ps

  -- each node of sketches
  pub EachBelow : (SketchNode → Type 0) → Sketches → Type 0
  EachBelow P Over = Unit {0}
  EachBelow P (More p ps) = EachNode P p × EachBelow P ps

mutual
  -- what holds of each node that is a site holds of each site
  pub each_site : (Q : List Assertion → Type 0) (p : Sketch) → EachNode (λ (node : SketchNode). Each Q (site_at node)) p →
      Each Q (sites_of p)
  each_site Q (Draw node ps) h = each_append Q (site_at node) (sites_below ps) h.0 (all_sites Q ps h.1)

  all_sites : (Q : List Assertion → Type 0) (ps : Sketches) → EachBelow (λ (node : SketchNode). Each Q (site_at node)) ps →
      Each Q (sites_below ps)
  all_sites Q Over h = tt
  all_sites Q (More p ps) h = each_append Q (sites_of p) (sites_below ps) (each_site Q p h.0) (all_sites Q ps h.1)

-- what holds of the nodes that products draw
pub record HoldsOfNodes (t : Parts) (P : SketchNode → Type 0) : Type 0 where
  pub of_step : (c : Copy) → P (Plain (Step c))
  pub of_summary : (c : Copy) → P (Plain (Abs c 1))
  pub of_fork : (c : Copy) → P (Plain (Fork c))
  pub of_end : P (Plain Ends)
  pub of_loops : (set : Copies) (code : Copy → Code) → P (LoopSite set (loop_templates t set code))
  pub of_block : (counts : Copy → ℕ) (code : Copy → Code) → P (BlockSite counts (block_templates t code))

module _ (t : Parts) (P : SketchNode → Type 0) (of : HoldsOfNodes t P) where
  -- of each node of a sketch
  abbrev Good : Sketch → Type 0
  Good p = EachNode P p

  ends_nodes : Good ends
  ends_nodes = (of.of_end, tt)

  each_nodes : (node : Copy → Node) → ((c : Copy) → P (Plain (node c))) → (cs : List Copy) (next : Sketch) → Good next →
      Good (each_of node cs next)
  each_nodes node here [] next h = h
  each_nodes node here (c ∷ cs) next h = (here c, (each_nodes node here cs next h, tt))

  turns_nodes : (turn : Copies → Sketch) → ((v : Copies) → Good (turn v)) → (vs : List Copies) (next : Sketch) → Good next →
      EachBelow P (turns_then turn vs next)
  turns_nodes turn each [] next h = (h, tt)
  turns_nodes turn each (v ∷ vs) next h = (each v, turns_nodes turn each vs next h)

  looped_nodes : (set : Copies) (code : Copy → Code) (turn : Copies → Sketch) (next : Sketch) → ((v : Copies) → Good (turn v)) → Good next →
      Good (looped (loop_templates t set code) set turn next)
  looped_nodes set code turn next each h = (of.of_loops set code, turns_nodes turn each (subsets set) next h)

  apart_nodes : (code : Copy → Code) (counts : Copy → ℕ) (inner next : Sketch) → Good inner → Good next →
      Good (apart (block_templates t code) counts inner next)
  apart_nodes code counts inner next inside h = (of.of_block counts code, (inside, (h, tt)))

  -- what draws good sketches before good ones
  abbrev GoGood : (Copies → (Copy → Code) → Sketch → Sketch) → Type 0
  GoGood go = (set : Copies) (r : Copy → Code) (next : Sketch) → Good next → Good (go set r next)

  drawn_nodes : (set : Copies) (r : Copy → Code) (next : Sketch) (go : Copies → (Copy → Code) → Sketch → Sketch) → GoGood go → Good next →
      (m : Move) → Good (drawn t set r next go m)
  drawn_nodes set r next go goes h Done = h
  drawn_nodes set r next go goes h (Steps c) = (of.of_step c, (goes set (with_copy r c (rest_after 1 (r c))) next h, tt))
  drawn_nodes set r next go goes h (Summaries left) =
      each_nodes (λ (c : Copy). Abs c 1) of.of_summary (members left) (go set (moved_on left r) next) (goes set (moved_on left r) next h)
  drawn_nodes set r next go goes h (Forks c) = (
    of.of_fork c,
    (goes set (with_copy r c (by_first_block (r c))) next h, (goes set (with_copy r c (by_second_block (r c))) next h, tt)),
  )
  drawn_nodes set r next go goes h (Loops left) =
      looped_nodes left r (λ (v : Copies). go v (bodies_left r v) ends) (go set (moved_on left r) next)
      (λ (v : Copies). goes v (bodies_left r v) ends ends_nodes) (goes set (moved_on left r) next h)

  mini_nodes : (n : ℕ) → GoGood (mini_product t n)
  mini_nodes zero set r next h = h
  mini_nodes (suc n) set r next h = drawn_nodes set r next (mini_product t n) (mini_nodes n) h (move_of set r)

  -- what draws good sketches of sets
  abbrev DrawGood : (Copies → Sketch → Sketch) → Type 0
  DrawGood draw = (set : Copies) (next : Sketch) → Good next → Good (draw set next)

  any_nodes : (set : Copies) (draw : Copies → Sketch → Sketch) (next : Sketch) → DrawGood draw → Good next → Good (where_any set draw next)
  any_nodes set draw next goes h = by (is_inhabited set)
    where
      by : (b : Bool) → Good (if b then draw set next else next)
      by true = goes set next h
      by false = h

  forked_nodes : (inner : Copies → Sketch) → ((v : Copies) → Good (inner v)) → (cs : List Copy) (taken : Copies) →
      Good (forked inner cs taken)
  forked_nodes inner each [] taken = each taken
  forked_nodes inner each (c ∷ cs) taken =
      (of.of_fork c, (forked_nodes inner each cs (with_member taken c), (forked_nodes inner each cs taken, tt)))

  branched_nodes : (first second : Copies → Sketch → Sketch) → DrawGood first → DrawGood second → (set taken : Copies) →
      Good (branched first second set taken)
  branched_nodes first second one other set taken =
      any_nodes taken first (where_any (without set taken) second ends) one (any_nodes (without set taken) second ends other ends_nodes)

  if_nodes : (b : Bool) (code : Copy → Code) (first second : Copies → Sketch → Sketch) → DrawGood first → DrawGood second →
      DrawGood (product_if t b code first second)
  if_nodes false code first second one other set next h = each_nodes (λ (c : Copy). Abs c 1) of.of_summary (members set) next h
  if_nodes true code first second one other set next h =
      apart_nodes (only_in set code) (λ (c : Copy). if has set c then 1 else 0)
      (forked (branched first second set) (members set) no_copies) next
      (forked_nodes (branched first second set) (branched_nodes first second one other set) (members set) no_copies) h

  while_nodes : (b : Bool) (code : Copy → Code) (body : Copies → Sketch → Sketch) → DrawGood body → DrawGood (product_while t b code body)
  while_nodes false code body inside set next h = each_nodes (λ (c : Copy). Abs c 1) of.of_summary (members set) next h
  while_nodes true code body inside set next h =
      looped_nodes set code (λ (v : Copies). body v ends) next (λ (v : Copies). inside v ends ends_nodes) h

  hole_nodes : (set : Copies) (code : Copy → Code) (next : Sketch) → Good next → Good (filled t set code next)
  hole_nodes set code next h = by (not (is_shared set code) && list_any (λ (c : Copy). has_fork (code c)) (members set))
    where
      by : (b : Bool) → Good (if b
          then apart (block_templates t code) (λ (c : Copy). own_statements (code c)) (side_by_side t set code ends) next
          else side_by_side t set code next)
      by true =
          apart_nodes code (λ (c : Copy). own_statements (code c)) (side_by_side t set code ends) next
          (mini_nodes (statements_left code) set code ends ends_nodes) h
      by false = mini_nodes (statements_left code) set code next h

  product_nodes : (c : Code) → DrawGood (product t c)
  product_nodes End set next h = h
  product_nodes (Skip k) set next h = each_nodes Step of.of_step (members set) (product t k set next) (product_nodes k set next h)
  product_nodes (Assign x e k) set next h = each_nodes Step of.of_step (members set) (product t k set next) (product_nodes k set next h)
  product_nodes (Write a i e k) set next h = each_nodes Step of.of_step (members set) (product t k set next) (product_nodes k set next h)
  product_nodes (If b c d k) set next h =
      if_nodes (has_hole c || has_hole d) (λ (p : Copy). fill (t.fillings p) (If b c d End)) (product t c) (product t d) (product_nodes c)
      (product_nodes d) set (product t k set next) (product_nodes k set next h)
  product_nodes (While b c k) set next h =
      while_nodes (has_hole c) (λ (p : Copy). fill (t.fillings p) (While b c End)) (product t c) (product_nodes c) set
      (product t k set next)
      (product_nodes k set next h)
  product_nodes (Hole n k) set next h =
      hole_nodes set (only_in set (λ (c : Copy). filling (t.fillings c) n)) (product t k set next) (product_nodes k set next h)

  -- what holds of the nodes that products draw holds of each node of the sketch
  pub sketch_nodes : EachNode P (sketch_of t)
  sketch_nodes = product_nodes t.shared all_copies ends ends_nodes
