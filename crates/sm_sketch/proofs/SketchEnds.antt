-- The sketches that trees of the program stand for, by how they end, and by a node put before them.
use Rattle.sm_sketch.proofs.Imports.{◌≡◌, ℕ, List, [], ◌∷◌, ◌++◌, map, refl, sym, ap, ◌∙◌, Box, Vec, Global, Rc, by_copy, Formulas, Fork, Ends, simple_node, Simple, SketchEnd, fold-roll-SketchEnd, Sketches, out-Sketches, roll-Sketches, fold_out-Sketches, fold-roll-Sketches, Plain, LoopSite, BlockSite, NumberedSketch, Draw, Over, More, sketches_before, stacked, end_layer, sketch_layer, sketches_layer, numbered_sketch, numbered_end, numbered_sketches, fold_out-Sketch}
use Rattle.sm_sketch.specs.declared.sketch.SketchEnd.TheOpen as layer
use Rattle.sm_sketch.specs.declared.sketch.SketchEnd.TheVariants as last
use Rattle.sm_sketch.specs.declared.sketch.SketchEnd.TheVariants.{rolls-Fork, rolls-Loop, rolls-Block, rolls-End}
use Rattle.sm_sketch.specs.SketchViews.{Sketch}

-- a sketch is its simple nodes, and then its last one
pub sketch_is : (s : Sketch) → numbered_sketch s ≡ stacked s.straight.list.items (numbered_end s.last)
sketch_is s = fold_out-Sketch NumberedSketch NumberedSketch (List NumberedSketch) end_layer sketch_layer sketches_layer s

-- sketches
pub sketches_are : (ps : Sketches) →
    numbered_sketches ps ≡ map numbered_sketch (out-Sketches ps).list.items
sketches_are ps = fold_out-Sketches NumberedSketch NumberedSketch (List NumberedSketch) end_layer sketch_layer sketches_layer ps

pub end_fork : (copy : ℕ) (one other : Box Sketch Global) →
    numbered_end (last.Fork copy one other)
    ≡ Draw (Plain (Fork copy)) (More (numbered_sketch one.value) (More (numbered_sketch other.value) Over))
end_fork copy one other =
    ap numbered_end (sym (rolls-Fork copy one other))
    ∙ fold-roll-SketchEnd NumberedSketch NumberedSketch (List NumberedSketch) end_layer sketch_layer sketches_layer
    (layer.Fork copy one other)

pub end_loop : (set : ℕ) (templates : Rc Formulas Global) (turns : Sketches) (after : Box Sketch Global) →
    numbered_end (last.Loop set templates turns after)
    ≡ Draw (LoopSite set templates.value.list.items)
    (sketches_before (map numbered_sketch (out-Sketches turns).list.items) (More (numbered_sketch after.value) Over))
end_loop set templates turns after =
    ap numbered_end (sym (rolls-Loop set templates turns after))
    ∙ fold-roll-SketchEnd NumberedSketch NumberedSketch (List NumberedSketch) end_layer sketch_layer sketches_layer
    (layer.Loop set templates turns after)
    ∙ ap (λ (ps : List NumberedSketch). Draw (LoopSite set templates.value.list.items)
    (sketches_before ps (More (numbered_sketch after.value) Over))) (sketches_are turns)

pub end_block : (k0 k1 k2 k3 : ℕ) (templates : Rc Formulas Global) (inner after : Box Sketch Global) →
    numbered_end (last.Block k0 k1 k2 k3 templates inner after)
    ≡ Draw (BlockSite (by_copy k0 k1 k2 k3) templates.value.list.items)
    (More (numbered_sketch inner.value) (More (numbered_sketch after.value) Over))
end_block k0 k1 k2 k3 templates inner after =
    ap numbered_end (sym (rolls-Block k0 k1 k2 k3 templates inner after))
    ∙ fold-roll-SketchEnd NumberedSketch NumberedSketch (List NumberedSketch) end_layer sketch_layer sketches_layer
    (layer.Block k0 k1 k2 k3 templates inner after)

pub end_end : numbered_end last.End ≡ Draw (Plain Ends) Over
end_end =
    ap numbered_end (sym rolls-End)
    ∙ fold-roll-SketchEnd NumberedSketch NumberedSketch (List NumberedSketch) end_layer sketch_layer sketches_layer layer.End

-- a node put behind the others is the first one
stacked_more : (ss : List Simple) (s : Simple) (p : NumberedSketch) →
    stacked (ss ++ s ∷ []) p ≡ Draw (Plain (simple_node s)) (More (stacked ss p) Over)
stacked_more [] s p = refl
stacked_more (x ∷ ss) s p = stacked_more ss s (Draw (Plain (simple_node x)) (More p Over))

pub pushed : (t next : Sketch) (s : Simple) → t.straight.list.items ≡ next.straight.list.items ++ s ∷ [] → t.last ≡ next.last →
    numbered_sketch t ≡ Draw (Plain (simple_node s)) (More (numbered_sketch next) Over)
pushed t next s items last =
    sketch_is t ∙ (λ i. stacked (items i) (numbered_end (last i))) ∙ stacked_more next.straight.list.items s (numbered_end next.last)
    ∙ ap (λ (p : NumberedSketch). Draw (Plain (simple_node s)) (More p Over)) (sym (sketch_is next))

-- a sketch with no simple nodes
pub bare : (t : Sketch) (p : NumberedSketch) → t.straight.list.items ≡ [] → numbered_end t.last ≡ p → numbered_sketch t ≡ p
bare t p none e = sketch_is t ∙ (λ i. stacked (none i) (e i))

-- two sketches of the same nodes
pub same_parts : (t s : Sketch) → t.straight.list.items ≡ s.straight.list.items → numbered_end t.last ≡ numbered_end s.last →
    numbered_sketch t ≡ numbered_sketch s
same_parts t s items ends = sketch_is t ∙ (λ i. stacked (items i) (ends i)) ∙ sym (sketch_is s)

-- two lists of the same sketches
pub same_list : (ps qs : Sketches) → map numbered_sketch (out-Sketches ps).list.items ≡ map numbered_sketch (out-Sketches qs).list.items →
    numbered_sketches ps ≡ numbered_sketches qs
same_list ps qs e = sketches_are ps ∙ e ∙ sym (sketches_are qs)

-- the ends of sketches, where what their boxes have is told
pub fork_end : (copy : ℕ) (one other : Box Sketch Global) (p q : Sketch) → one.value ≡ p → other.value ≡ q →
    numbered_end (last.Fork copy one other) ≡ Draw (Plain (Fork copy)) (More (numbered_sketch p) (More (numbered_sketch q) Over))
fork_end copy one other p q first second =
    end_fork copy one other
    ∙ (λ i. Draw (Plain (Fork copy)) (More (numbered_sketch (first i)) (More (numbered_sketch (second i)) Over)))

pub block_end : (k0 k1 k2 k3 : ℕ) (templates : Rc Formulas Global) (inner after : Box Sketch Global) (fs : Formulas) (p q : Sketch) →
    templates.value ≡ fs → inner.value ≡ p → after.value ≡ q →
    numbered_end (last.Block k0 k1 k2 k3 templates inner after)
    ≡ Draw (BlockSite (by_copy k0 k1 k2 k3) fs.list.items) (More (numbered_sketch p) (More (numbered_sketch q) Over))
block_end k0 k1 k2 k3 templates inner after fs p q same first second =
    end_block k0 k1 k2 k3 templates inner after
    ∙ (λ i. Draw (BlockSite (by_copy k0 k1 k2 k3) (same i).list.items)
    (More (numbered_sketch (first i)) (More (numbered_sketch (second i)) Over)))

pub loop_end : (set : ℕ) (templates : Rc Formulas Global) (turns : Sketches) (after : Box Sketch Global) (fs : Formulas) (ss : List Sketch)
    (q : Sketch) → templates.value ≡ fs → numbered_sketches turns ≡ map numbered_sketch ss → after.value ≡ q →
    numbered_end (last.Loop set templates turns after)
    ≡ Draw (LoopSite set fs.list.items) (sketches_before (map numbered_sketch ss) (More (numbered_sketch q) Over))
loop_end set templates turns after fs ss q same are last =
    end_loop set templates turns after
    ∙ (λ i. Draw (LoopSite set (same i).list.items)
    (sketches_before ((sym (sketches_are turns) ∙ are) i) (More (numbered_sketch (last i)) Over)))

-- sketches that were put into a list
pub rolled_are : (l : Vec Sketch Global) → numbered_sketches (roll-Sketches (record { list = l })) ≡ map numbered_sketch l.items
rolled_are l =
    fold-roll-Sketches NumberedSketch NumberedSketch (List NumberedSketch) end_layer sketch_layer sketches_layer (record { list = l })

-- a block over copies of its templates and sketches stands for what the block does
pub same_block : (s : SketchEnd) (k0 k1 k2 k3 : ℕ) (ts us : Rc Formulas Global) (a b p q : Box Sketch Global) →
    s ≡ last.Block k0 k1 k2 k3 us p q → ts.value ≡ us.value → numbered_sketch a.value ≡ numbered_sketch p.value →
    numbered_sketch b.value ≡ numbered_sketch q.value → numbered_end (last.Block k0 k1 k2 k3 ts a b) ≡ numbered_end s
same_block s k0 k1 k2 k3 ts us a b p q is same first second =
    end_block k0 k1 k2 k3 ts a b
    ∙ (λ i. Draw (BlockSite (by_copy k0 k1 k2 k3) (same i).list.items) (More (first i) (More (second i) Over)))
    ∙ sym (ap numbered_end is ∙ end_block k0 k1 k2 k3 us p q)
