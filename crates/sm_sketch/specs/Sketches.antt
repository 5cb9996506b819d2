-- Cited by public clauses: sketches, which are plans whose kept formulas are not chosen yet. At a
-- site stands the list of templates of which its formula is to be made.
use Rattle.std.specs.Prelude.{ℕ, ◌+◌, List, [], ◌∷◌, ◌++◌, length}
use Rattle.sm_syntax.specs.claim.ConflictFree.{Copy}
use Rattle.sm_term.specs.Assertions.{Assertion}
use Rattle.sm_plan.specs.Copies.{Copies, subsets}
use Rattle.sm_plan.specs.Nodes.{Node, Fork, Loop, Block, Ends}
use Rattle.sm_plan.specs.Plans as plan
use Rattle.sm_plan.specs.Plans.{Plan, Plans, At}

-- a node of a sketch: one that is chosen, or the site of a loop or of a block
pub data SketchNode : Type 0 where
  Plain : Node → SketchNode
  LoopSite : Copies → List Assertion → SketchNode
  BlockSite : (Copy → ℕ) → List Assertion → SketchNode

mutual
  -- a node, and a sketch for each state that it opens, in order
  pub data Sketch : Type 0 where
    Draw : SketchNode → Sketches → Sketch

  -- sketches, one after the other
  pub data Sketches : Type 0 where
    Over : Sketches
    More : Sketch → Sketches → Sketches

-- the end of all copies
abbrev pub ends : Sketch
ends = Draw (Plain Ends) Over

-- one node, and what follows
abbrev pub then_draw : Node → Sketch → Sketch
then_draw node next = Draw (Plain node) (More next Over)

-- a node for each copy of a list, and what follows
abbrev pub each_of : (Copy → Node) → List Copy → Sketch → Sketch
each_of node [] next = next
each_of node (c ∷ rest) next = then_draw (node c) (each_of node rest next)

-- a fork of a copy: what is drawn where it takes the first block, and where it takes the second
abbrev pub forking : Copy → Sketch → Sketch → Sketch
forking c one other = Draw (Plain (Fork c)) (More one (More other Over))

-- what is drawn for each set of a list, and then what follows
abbrev pub turns_then : (Copies → Sketch) → List Copies → Sketch → Sketches
turns_then turn [] next = More next Over
turns_then turn (v ∷ rest) next = More (turn v) (turns_then turn rest next)

-- the loops of a set: what is drawn for a turn of each subset, and what follows
abbrev pub looped : List Assertion → Copies → (Copies → Sketch) → Sketch → Sketch
looped templates set turn next = Draw (LoopSite set templates) (turns_then turn (subsets set) next)

-- statements of each copy that are proved apart, and what follows
abbrev pub apart : List Assertion → (Copy → ℕ) → Sketch → Sketch → Sketch
apart templates counts inner next = Draw (BlockSite counts templates) (More inner (More next Over))

-- the templates of a node that is a site
abbrev pub site_at : SketchNode → List (List Assertion)
site_at (Plain node) = []
site_at (LoopSite set templates) = templates ∷ []
site_at (BlockSite counts templates) = templates ∷ []

abbrev mutual
  -- the templates of each site, in preorder
  pub sites_of : Sketch → List (List Assertion)
  sites_of (Draw node ps) = site_at node ++ sites_below ps

  -- the templates of each site of sketches, in preorder
  pub sites_below : Sketches → List (List Assertion)
  sites_below Over = []
  sites_below (More p ps) = sites_of p ++ sites_below ps

-- a node of a plan, where the site with this number keeps what is chosen of its templates
abbrev pub node_with : (ℕ → List Assertion → Assertion) → ℕ → SketchNode → Node
node_with keep s (Plain node) = node
node_with keep s (LoopSite set templates) = Loop set (keep s templates)
node_with keep s (BlockSite counts templates) = Block counts (keep s templates)

abbrev mutual
  -- the plan of a sketch, whose sites are numbered from s on
  pub plan_with : (ℕ → List Assertion → Assertion) → ℕ → Sketch → Plan
  plan_with keep s (Draw node ps) =
      At (node_with keep s node) (plans_with keep (s + length (site_at node)) ps)

  -- the plans of sketches, whose sites are numbered from s on
  pub plans_with : (ℕ → List Assertion → Assertion) → ℕ → Sketches → Plans
  plans_with keep s Over = plan.Over
  plans_with keep s (More p ps) =
      plan.More (plan_with keep s p) (plans_with keep (s + length (sites_of p)) ps)
