-- A sketch stays where the table has more behind.
use Rattle.sm_sketch.proofs.Imports.{◌≡◌, List, [], ◌∷◌, map, refl, sym, ap, ◌∙◌, set_of, Node, NumberedNode, At, node_over, IsKeepReady, NumberedSite, Plain, LoopSite, BlockSite, NumberedSketch, Draw, NumberedSketches, Over, More, site_over, sketch_over, sketches_over, IsSiteReady, AreNodesReady, AreBelowReady, sketch_size, sketch_depth, numbered_sketch, sketch_in, IsSketchReady, AreSketchesReady}
use Rattle.sm_term.specs.Tables.{TableValue, trees_in, sorts_in}
use Rattle.sm_term.specs.TableLaws.{ExtendsTable}
use Rattle.sm_plan.specs.Plans as plan
use Rattle.sm_plan.proofs.TablesWiden as widened
use Rattle.sm_expand.specs.NumberedPlans as numbers
use Rattle.sm_expand.proofs.PlansWiden as plans
use Rattle.sm_sketch.specs.Sketches as tree
use Rattle.sm_sketch.specs.SketchViews.{Sketch}

-- the first node of a plan
abbrev first : plan.Plan → Node
first (plan.At node ps) = node

module _ (v w : TableValue) (wider : ExtendsTable v w) where
  -- nodes
  node_stays : (n : NumberedNode) → IsKeepReady (sorts_in v) (trees_in v) n →
      node_over (sorts_in w) (trees_in w) n ≡ node_over (sorts_in v) (trees_in v) n
  node_stays n r = ap first (plans.plan_stays v w wider (At n numbers.Over) (r, tt))

  site_stays : (n : NumberedSite) → IsSiteReady (sorts_in v) (trees_in v) n →
      site_over (sorts_in w) (trees_in w) n ≡ site_over (sorts_in v) (trees_in v) n
  site_stays (Plain node) r = ap tree.Plain (node_stays node r)
  site_stays (LoopSite set fs) r = ap (tree.LoopSite (set_of set)) (widened.forms_stay v w wider fs r.1)
  site_stays (BlockSite counts fs) r = ap (tree.BlockSite counts) (widened.forms_stay v w wider fs r)

  site_ready : (n : NumberedSite) → IsSiteReady (sorts_in v) (trees_in v) n → IsSiteReady (sorts_in w) (trees_in w) n
  site_ready (Plain node) r = (plans.plan_ready v w wider (At node numbers.Over) (r, tt)).0
  site_ready (LoopSite set fs) r = (r.0, widened.forms_ready v w wider fs r.1)
  site_ready (BlockSite counts fs) r = widened.forms_ready v w wider fs r

  -- sketches over numbers of terms
  mutual
    over_stays : (p : NumberedSketch) → AreNodesReady (sorts_in v) (trees_in v) p →
        sketch_over (sorts_in w) (trees_in w) p ≡ sketch_over (sorts_in v) (trees_in v) p
    over_stays (Draw node ps) r = λ i. tree.Draw (site_stays node r.0 i) (below_stays ps r.1 i)

    below_stays : (ps : NumberedSketches) → AreBelowReady (sorts_in v) (trees_in v) ps →
        sketches_over (sorts_in w) (trees_in w) ps ≡ sketches_over (sorts_in v) (trees_in v) ps
    below_stays Over r = refl
    below_stays (More p ps) r = λ i. tree.More (over_stays p r.0 i) (below_stays ps r.1 i)

  mutual
    nodes_ready : (p : NumberedSketch) → AreNodesReady (sorts_in v) (trees_in v) p → AreNodesReady (sorts_in w) (trees_in w) p
    nodes_ready (Draw node ps) r = (site_ready node r.0, below_ready ps r.1)

    below_ready : (ps : NumberedSketches) → AreBelowReady (sorts_in v) (trees_in v) ps → AreBelowReady (sorts_in w) (trees_in w) ps
    below_ready Over r = tt
    below_ready (More p ps) r = (nodes_ready p r.0, below_ready ps r.1)

  -- sketches
  pub sketch_stays : (s : Sketch) → IsSketchReady (sorts_in v) (trees_in v) s →
      sketch_in (sorts_in w) (trees_in w) s ≡ sketch_in (sorts_in v) (trees_in v) s
  sketch_stays s r = over_stays (numbered_sketch s) r.formulas

  pub sketch_ready : (s : Sketch) → IsSketchReady (sorts_in v) (trees_in v) s → IsSketchReady (sorts_in w) (trees_in w) s
  sketch_ready s r = record {
    nodes = r.nodes ∙ ap sketch_size (sym (sketch_stays s r));
    branches = r.branches ∙ ap sketch_depth (sym (sketch_stays s r));
    formulas = nodes_ready (numbered_sketch s) r.formulas;
  }

  pub sketches_stay : (ss : List Sketch) → AreSketchesReady (sorts_in v) (trees_in v) ss →
      map (sketch_in (sorts_in w) (trees_in w)) ss ≡ map (sketch_in (sorts_in v) (trees_in v)) ss
  sketches_stay [] r = refl
  sketches_stay (s ∷ ss) r = let one = sketch_stays s r.0 in let rest = sketches_stay ss r.1 in λ i. one i ∷ rest i

  pub sketches_ready : (ss : List Sketch) → AreSketchesReady (sorts_in v) (trees_in v) ss → AreSketchesReady (sorts_in w) (trees_in w) ss
  sketches_ready [] r = tt
  sketches_ready (s ∷ ss) r = (sketch_ready s r.0, sketches_ready ss r.1)
