-- One turn more behind others, over a wider table.
use Rattle.sm_product.proofs.Imports.{◌≡◌, ℕ, Bool, true, false, if◌then◌else◌, List, [], ◌∷◌, ◌++◌, map, sym, ap, ◌∙◌, subst, append-nil, map-append, Sorts, TableValue, trees_in, sorts_in, ExtendsTable, Tree, sketch_in, IsSketchReady, AreSketchesReady, sketches_stay, sketches_ready}
use Rattle.sm_sketch.specs.Sketches as plain
use Rattle.sm_sketch.specs.declared.sketch.Sketch.{Sketch}

push_ready : (sorts : Sorts) (trees : List Tree) (ss : List Sketch) (s : Sketch) → AreSketchesReady sorts trees ss →
    IsSketchReady sorts trees s → AreSketchesReady sorts trees (ss ++ s ∷ [])
push_ready sorts trees [] s all one = (one, tt)
push_ready sorts trees (x ∷ ss) s all one = (all.0, push_ready sorts trees ss s all.1 one)

module _ (v w : TableValue) (wider : ExtendsTable v w) (old new : List Sketch) (s : Sketch) (pushed : new ≡ old ++ s ∷ [])
    (ready : AreSketchesReady (sorts_in v) (trees_in v) old) where
  pub put_drawn : (turn : ℕ → plain.Sketch) (mask : ℕ) (b : Bool) → b ≡ true → sketch_in (sorts_in w) (trees_in w) s ≡ turn mask →
      map (sketch_in (sorts_in w) (trees_in w)) new
      ≡ map (sketch_in (sorts_in v) (trees_in v)) old ++ map turn (if b then mask ∷ [] else [])
  put_drawn turn mask b here is =
      ap (map (sketch_in (sorts_in w) (trees_in w))) pushed ∙ map-append (sketch_in (sorts_in w) (trees_in w)) old (s ∷ [])
      ∙ ap (λ (l : List plain.Sketch). l ++ sketch_in (sorts_in w) (trees_in w) s ∷ []) (sketches_stay v w wider old ready)
      ∙ ap (λ (q : plain.Sketch). map (sketch_in (sorts_in v) (trees_in v)) old ++ q ∷ []) is
      ∙ ap (λ (x : Bool). map (sketch_in (sorts_in v) (trees_in v)) old ++ map turn (if x then mask ∷ [] else [])) (sym here)

  pub put_ready : IsSketchReady (sorts_in w) (trees_in w) s → AreSketchesReady (sorts_in w) (trees_in w) new
  put_ready one =
      subst (λ (l : List Sketch). AreSketchesReady (sorts_in w) (trees_in w) l) (sym pushed)
      (push_ready (sorts_in w) (trees_in w) old s (sketches_ready v w wider old ready) one)

-- no turn more
pub none_put : (turn : ℕ → plain.Sketch) (mask : ℕ) (b : Bool) (l : List plain.Sketch) → b ≡ false →
    l ≡ l ++ map turn (if b then mask ∷ [] else [])
none_put turn mask b l out =
    sym (append-nil l) ∙ ap (λ (x : Bool). l ++ map turn (if x then mask ∷ [] else [])) (sym out)
