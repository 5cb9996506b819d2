-- Cited by public clauses: sketches over numbers of terms, and what they are over the trees of a
-- table.
use Rattle.std.specs.Prelude.{ℕ, ◌≤◌, List, [], ◌∷◌}
use Rattle.sm_syntax.specs.claim.ConflictFree.{Copy}
use Rattle.sm_syntax.specs.text.Sorts.{Sorts}
use Rattle.sm_term.specs.declared.formula.Formula.{Formula}
use Rattle.sm_term.specs.Terms.{Tree}
use Rattle.sm_plan.specs.Masks.{set_of}
use Rattle.sm_plan.specs.ReadyStates.{AreFormsReady}
use Rattle.sm_plan.specs.Views.{forms_in}
use Rattle.sm_expand.specs.NumberedPlans.{NumberedNode, node_over, IsKeepReady}
use Rattle.sm_sketch.specs.Sketches as tree

-- a node, with the mask of the set of a loop, and templates over numbers of terms
pub data NumberedSite : Type 0 where
  Plain : NumberedNode → NumberedSite
  LoopSite : ℕ → List Formula → NumberedSite
  BlockSite : (Copy → ℕ) → List Formula → NumberedSite

mutual
  -- a node, and sketches below it
  pub data NumberedSketch : Type 0 where
    Draw : NumberedSite → NumberedSketches → NumberedSketch

  -- sketches, one after the other
  pub data NumberedSketches : Type 0 where
    Over : NumberedSketches
    More : NumberedSketch → NumberedSketches → NumberedSketches

-- a node over the trees of a table
abbrev pub site_over : Sorts → List Tree → NumberedSite → tree.SketchNode
site_over sorts trees (Plain node) = tree.Plain (node_over sorts trees node)
site_over sorts trees (LoopSite set fs) = tree.LoopSite (set_of set) (forms_in sorts trees fs)
site_over sorts trees (BlockSite counts fs) = tree.BlockSite counts (forms_in sorts trees fs)

abbrev mutual
  -- a sketch over the trees of a table
  pub sketch_over : Sorts → List Tree → NumberedSketch → tree.Sketch
  sketch_over sorts trees (Draw node ps) =
      tree.Draw (site_over sorts trees node) (sketches_over sorts trees ps)

  -- sketches over the trees of a table
  pub sketches_over : Sorts → List Tree → NumberedSketches → tree.Sketches
  sketches_over sorts trees Over = tree.Over
  sketches_over sorts trees (More p ps) =
      tree.More (sketch_over sorts trees p) (sketches_over sorts trees ps)

-- the formulas of a node are in a table, each part with the sort that it is used with, and its set
-- has no more than four copies
abbrev pub IsSiteReady : Sorts → List Tree → NumberedSite → Type 0
IsSiteReady sorts trees (Plain node) = IsKeepReady sorts trees node
IsSiteReady sorts trees (LoopSite set fs) = (set ≤ 15) × AreFormsReady sorts trees fs
IsSiteReady sorts trees (BlockSite counts fs) = AreFormsReady sorts trees fs

abbrev mutual
  -- the formulas of each node of a sketch are in a table, and its set has at most four copies
  pub AreNodesReady : Sorts → List Tree → NumberedSketch → Type 0
  AreNodesReady sorts trees (Draw node ps) =
      IsSiteReady sorts trees node × AreBelowReady sorts trees ps

  -- the formulas of each node of sketches are in a table, and its set has at most four copies
  pub AreBelowReady : Sorts → List Tree → NumberedSketches → Type 0
  AreBelowReady sorts trees Over = Unit {0}
  AreBelowReady sorts trees (More p ps) =
      AreNodesReady sorts trees p × AreBelowReady sorts trees ps

-- a list of sketches before others
abbrev pub sketches_before : List NumberedSketch → NumberedSketches → NumberedSketches
sketches_before [] qs = qs
sketches_before (p ∷ ps) qs = More p (sketches_before ps qs)
