-- Cited by public clauses: which site asks what a node of a product asks.
use Rattle.std.specs.Prelude.{ℕ, suc, ◌+◌, Option, Some, None, List, [], ◌∷◌, ◌++◌, length, slice_get, unwrap_or}
use Rattle.sm_syntax.specs.text.Parts.{Parts}
use Rattle.sm_plan.specs.Plans.{Due}
use Rattle.sm_sketch.specs.Sketches.{Plain, LoopSite, BlockSite, Sketch, Draw, Sketches, Over, More, sites_of}
use Rattle.sm_product.specs.Products.{sketch_of}

abbrev mutual
  -- for each node of a sketch, in preorder, the site whose kept formula is asked there, none where
  -- the final target is; the sites are numbered from s on
  pub owners : Option ℕ → ℕ → Sketch → List (Option ℕ)
  owners target s (Draw (Plain node) ps) = target ∷ owners_below target target s ps
  owners target s (Draw (LoopSite set templates) ps) =
      Some s ∷ owners_below (Some s) target (suc s) ps
  owners target s (Draw (BlockSite counts templates) ps) =
      target ∷ owners_below (Some s) target (suc s) ps

  -- for each node of sketches, in preorder, its site; the last sketch may go on to another target
  pub owners_below : Option ℕ → Option ℕ → ℕ → Sketches → List (Option ℕ)
  owners_below inner last s Over = []
  owners_below inner last s (More p Over) = owners last s p
  owners_below inner last s (More p (More q ps)) =
      owners inner s p ++ owners_below inner last (s + length (sites_of p)) (More q ps)

-- the site that asks what a node asks, none where the final target is asked
abbrev pub owner_of : Parts → Due → Option ℕ
owner_of t d = unwrap_or (slice_get (owners None 0 (sketch_of t)) d.node) None
