-- What holds of the parts of a mini-product over a table, after it has more.
use Rattle.sm_product.proofs.Imports.{◌≡◌, List, sym, ◌∙◌, subst, Code, Copy, Parts, Sorts, IsWellSorted, Assertion, TableValue, trees_in, sorts_in, ExtendsTable, Copies, with_copy, by_first_block, by_second_block, Forks, Loops, moved_on, IsSiteReady, loop_templates, sketch_in, IsSketchReady, forking, looped, sketch_stays, turn_of, drawn, side_by_side}
use Rattle.sm_template.specs.declared.site.SiteContext.{SiteContext}
use Rattle.sm_sketch.specs.declared.sketch.Sketch as own
use Rattle.sm_sketch.specs.Sketches.{Sketch}

module _ (v w : TableValue) (wider : ExtendsTable v w) where
  pub still_drawn : (s : own.Sketch) (p : Sketch) → IsSketchReady (sorts_in v) (trees_in v) s →
      sketch_in (sorts_in v) (trees_in v) s ≡ p → sketch_in (sorts_in w) (trees_in w) s ≡ p
  still_drawn s p ready e = sketch_stays v w wider s ready ∙ e

  pub still_sited : (site : SiteContext) → IsSiteReady (sorts_in v) site → IsSiteReady (sorts_in w) site
  still_sited site h = subst (λ (sorts : Sorts). IsSiteReady sorts site) (sym wider.sorts) h

  pub still_sorted : (code : Copy → Code) → ((c : Copy) → IsWellSorted (sorts_in v) (code c)) → (c : Copy) →
      IsWellSorted (sorts_in w) (code c)
  still_sorted code h = subst (λ (sorts : Sorts). (c : Copy) → IsWellSorted sorts (code c)) (sym wider.sorts) h

-- a fork, from what is drawn for its blocks
pub fork_drawn : (t : Parts) (set : Copies) (r : Copy → Code) (c : Copy) (next s p q : Sketch) (first second : Copy → Code) →
    s ≡ forking c p q → p ≡ side_by_side t set first next → q ≡ side_by_side t set second next →
    first ≡ with_copy r c (by_first_block (r c)) → second ≡ with_copy r c (by_second_block (r c)) →
    s ≡ drawn t set r next (side_by_side t) (Forks c)
fork_drawn t set r c next s p q first second e f g one other =
    e ∙ (λ i. forking c (f i) (g i)) ∙ (λ i. forking c (side_by_side t set (one i) next) (side_by_side t set (other i) next))

-- loops, from what is drawn after them
pub loops_drawn : (t : Parts) (set : Copies) (r : Copy → Code) (left : Copies) (next s p : Sketch) (ts : List Assertion)
    (after : Copy → Code) →
    s ≡ looped ts left (turn_of t r) p → ts ≡ loop_templates t left r → p ≡ side_by_side t set after next →
    after ≡ moved_on left r → s ≡ drawn t set r next (side_by_side t) (Loops left)
loops_drawn t set r left next s p ts after e f g same =
    e ∙ (λ i. looped (f i) left (turn_of t r) (g i))
    ∙ (λ i. looped (loop_templates t left r) left (turn_of t r) (side_by_side t set (same i) next))
